use Rattle.std.proofs.Common.{refl, sym, subst, length, ◌<◌}
use Rattle.qc_history.specs.Spots as spots
use Rattle.qc_history.proofs.Spots.{within_changed, fewer_changed}
use Rattle.qc_history.proofs.nodes.Nodes.set_ready.Goals as goal

pub invariant_of-self : goal.invariant_of-self
invariant_of-self c =
    let f = (spots.with_ready c.args.place) in
    let inside = spots.spots c.self.inside.list.items in
    let less = subst (λ all. c.args.at < length all) (sym c.self.view_is) c.requires in
    record {
      within = subst spots.AreWithin (sym c.set_ready.ensures) (within_changed inside c.args.at f (λ s. refl) less c.self.invariant.within);
      fewer = subst spots.AreFewer (sym c.set_ready.ensures) (fewer_changed inside c.args.at f (λ s. refl) less c.self.invariant.fewer);
    }
