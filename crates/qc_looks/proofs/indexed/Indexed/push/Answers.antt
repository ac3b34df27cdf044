use Rattle.std.proofs.Common.{◌∷◌, sym, subst}
use Rattle.qc_event.specs.Base.{Setting}
use Rattle.qc_event.specs.History.{Past}
use Rattle.qc_event.specs.Legal.{Legal}
use Rattle.qc_looks.specs.Indexed.{AreKept, Known}
use Rattle.qc_looks.proofs.indexed.Indexed.push.Goals as goal

pub invariant_of-result : goal.invariant_of-result
invariant_of-result c =
    let setting : Setting = record { firsts = c.self.inside.firsts.now; base = c.self.inside.base.now } in
    let legal = subst (λ (k : Known). Legal k.setting (c.args.entry.now ∷ k.past)) (sym c.self.view_is) c.requires.legal in
    subst (λ (p : Past). AreKept setting p c.take_in.new.requests c.take_in.new.asks c.take_in.new.tables) (sym c.in_ok-take_in.ensures.history)
    (c.in_ok-take_in.ensures.kept setting c.self.invariant legal)
