use Rattle.std.proofs.Common.{◌+◌, ◌∷◌, sym, ap, ◌∙◌, subst}
use Rattle.std.specs.Prelude.{slice_index, slice_set}
use Rattle.qc_history.specs.Firsts.{AreFirstsOf}
use Rattle.qc_history.proofs.FirstEntries.{about_no_one, placed_before, has_place, about_first, about_again}
use Rattle.qc_history.proofs.firsts.Firsts.push.Goals as goal

pub returns-in_default : goal.returns-in_default
returns-in_default c = λ subject setting past e comes was reaches names legal named at.
    about_no_one subject comes setting e past c.args.self.now.after.items was legal (sym named ∙ c.in_default.is)

pub returns-in_default-place : goal.returns-in_default-place
returns-in_default-place c = λ subject setting past e comes was reaches names legal named at.
    absurd (has_place subject comes setting e past c.args.self.now.after.items was legal c.in-Some.name (sym named ∙ c.in-Some.is)
    (sym (c.place.ensures.place setting (e ∷ past) names legal) ∙ c.in_default-place.is))

pub returns-then-slot-eq0 : goal.returns-then-slot-eq0
returns-then-slot-eq0 c = λ subject setting past e comes was reaches names legal named at.
    let xs = c.args.self.now.after.items in
    let is = sym named ∙ c.in-Some.is in
    let here = placed_before subject comes setting e past xs was legal c.in-Some.name is c.in-Some-place.place (sym (c.place.ensures.place setting (e ∷ past) names legal) ∙ c.in-Some-place.is) in
    subst (AreFirstsOf subject (e ∷ past)) (ap (λ n. slice_set xs c.in-Some-place.place (n + 1)) (sym at) ∙ sym c.set_slot.ensures)
    (about_first subject comes setting e past xs was legal c.in-Some.name is c.in-Some-place.place here (reaches c.in-Some.name c.in-Some-place.place c.in-Some.is here)
    (ap (λ ys. slice_index ys c.in-Some-place.place) (sym c.deref.ensures.value) ∙ sym c.slot.ensures ∙ c.if-slot-eq0.true))

pub returns-else-slot-eq0 : goal.returns-else-slot-eq0
returns-else-slot-eq0 c = λ subject setting past e comes was reaches names legal named at.
    let xs = c.args.self.now.after.items in
    let is = sym named ∙ c.in-Some.is in
    let here = placed_before subject comes setting e past xs was legal c.in-Some.name is c.in-Some-place.place (sym (c.place.ensures.place setting (e ∷ past) names legal) ∙ c.in-Some-place.is) in
    about_again subject comes setting e past xs was legal c.in-Some.name is c.in-Some-place.place here
    (λ zero. c.if-slot-eq0.false (c.slot.ensures ∙ ap (λ ys. slice_index ys c.in-Some-place.place) c.deref.ensures.value ∙ zero))
