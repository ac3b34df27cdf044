use Rattle.std.proofs.Common.{◌∷◌, List, ℕ, sym, ap, ◌∙◌, subst}
use Rattle.std.specs.Prelude.{slice_index, slice_set}
use Rattle.qc_history.specs.Places.{place}
use Rattle.qc_history.specs.Aborts.{AreAbortsOf, abort_top}
use Rattle.qc_history.proofs.AbortsBelow.{none_aborted, top_before, top_placed, one_aborted, top_none, top_some}
use Rattle.qc_history.proofs.aborts.Aborts.push.Goals as goal

pub returns-in_default : goal.returns-in_default
returns-in_default c = λ setting past was room names legal at.
    none_aborted setting c.args.entry.now past _ _ was legal (top_none (abort_top c.args.entry.now.event) (sym c.top_of.ensures ∙ c.in_default.is))

pub returns-in_default-place : goal.returns-in_default-place
returns-in_default-place c = λ setting past was room names legal at.
    let e = c.args.entry.now in
    let top = top_some (abort_top e.event) c.in-Some.top (sym c.top_of.ensures ∙ c.in-Some.is) in
    absurd (top_placed setting e past _ _ was legal top.0 top.1 (ap (place (e ∷ past)) (sym top.2) ∙ sym (c.place.ensures.place setting (e ∷ past) names legal) ∙ c.in_default-place.is))

pub returns : goal.returns
returns c = λ setting past was room names legal at.
    let e = c.args.entry.now in
    let lasts = c.args.self.now.last.items in
    let before = c.args.self.now.before.items in
    let top = top_some (abort_top e.event) c.in-Some.top (sym c.top_of.ensures ∙ c.in-Some.is) in
    let here = top_before setting e past _ _ was legal top.0 top.1 c.in-Some-place.place (ap (place (e ∷ past)) (sym top.2) ∙ sym (c.place.ensures.place setting (e ∷ past) names legal) ∙ c.in-Some-place.is) in
    let put = c.slot.ensures ∙ ap (λ xs. slice_index xs c.in-Some-place.place) c.deref.ensures.value in
    subst (λ (x : List ℕ × List ℕ). AreAbortsOf (e ∷ past) x.0 x.1)
    (λ i. (sym c.set_slot-2.ensures i, (ap (slice_set before c.args.at) (sym put) ∙ sym c.set_slot.ensures) i))
    (one_aborted setting e past lasts before was legal top.0 top.1 c.in-Some-place.place c.args.at here at room)
