-- A line at its start holds nothing, and its client has asked nothing.
use Rattle.std.proofs.Common.{sym, ◌∙◌, subst}
use Rattle.std.specs.Prelude.{All}
use Rattle.std.proofs.lemmas.List.Elements.{All-nil}
use Rattle.qc_net.specs.Courier.{held_of, link_of}
use Rattle.qc_desk.specs.Consulting.{HasAsked}
use Rattle.qc_carry.proofs.KeepsStill.{keeps_at_start}
use Rattle.qc_carry.proofs.line.Line.new.Goals as goal

pub invariant_of-result : goal.invariant_of-result
invariant_of-result g c =
    let v = c.args.pass in
    record {
      client = c.requires.client;
      known = ∣ c.known.ensures ∣₁;
      held = subst (All (HasAsked v.seen)) (sym c.requires.none) (All-nil (HasAsked v.seen));
      keeps = keeps_at_start v.number (g.L.Link.view (link_of c.args.courier)).plan (held_of c.args.courier) c.args.patience v.seen
          (sym (c.known.ensures.mine c.requires.client.0) ∙ c.requires.fresh) c.requires.none c.requires.start;
    }
