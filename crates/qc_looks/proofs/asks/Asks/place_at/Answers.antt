use Rattle.std.proofs.Common.{sym, ap, ◌∙◌}
use Rattle.std.specs.Prelude.{slice_get}
use Rattle.qc_history.proofs.Looking.{unstarted}
use Rattle.qc_looks.proofs.Asking.{none_asked}
use Rattle.qc_looks.proofs.asks.Asks.place_at.Goals as goal

pub returns-in-Some : goal.returns-in-Some
returns-in-Some c = λ setting past kept names legal.
    c.nth.ensures
    ∙ ap (λ xs. slice_get xs c.args.k) (c.list.ensures ∙ kept.at_place c.args.m.now c.in-Some.place (sym (c.place.ensures.place setting past names legal) ∙ c.in-Some.is))

pub returns-in-None : goal.returns-in-None
returns-in-None c = λ setting past kept names legal.
    let m = c.args.m.now in
    sym (ap (λ xs. slice_get xs c.args.k) (none_asked setting past m legal (unstarted past m (sym (c.place.ensures.place setting past names legal) ∙ c.in-None.is))))
