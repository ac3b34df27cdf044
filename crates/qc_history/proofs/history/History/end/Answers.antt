use Rattle.std.proofs.Common.{◌≡◌, reverse, sym, ap, ◌∙◌, arith, subst}
use Rattle.std.specs.Prelude.{Some, is_some, slice_get}
use Rattle.std.proofs.lemmas.List.{reverse-reverse, length-reverse}
use Rattle.qc_event.specs.History.{end}
use Rattle.qc_event.specs.Legal.{Legal}
use Rattle.qc_event.proofs.OneEntry.{not_some, some_or_none}
use Rattle.qc_trail.proofs.Within.{something_within}
use Rattle.qc_history.proofs.history.History.end.Goals as goal

pub returns-in_default : goal.returns-in_default
returns-in_default c = λ setting legal.
    let told = c.end.ensures setting (reverse c.self.inside.entries) c.self.invariant.1 (subst (Legal setting) (sym c.self.view_is) legal) in
    sym (not_some (end c.args.self.now c.args.name.now) (λ h. some_or_none c.end.result (told.same ∙ ap (λ p. is_some (end p c.args.name.now)) c.self.view_is ∙ h) c.in_default.is))

pub returns-in-Some-get : goal.returns-in-Some-get
returns-in-Some-get c = λ setting legal.
    let items = c.self.inside.entries in
    let e = c.in-Some-get.entry in
    let told = c.end.ensures setting (reverse items) c.self.invariant.1 (subst (Legal setting) (sym c.self.view_is) legal) in
    let here : slice_get items c.in-Some.at ≡ Some e = sym c.get.ensures ∙ c.in-Some-get.is in
    c.end_in.ensures
    ∙ told.there c.in-Some.at e c.in-Some.is (ap (λ xs. slice_get xs c.in-Some.at) (reverse-reverse items) ∙ here)
    ∙ ap (λ p. end p c.args.name.now) c.self.view_is

pub returns-in-None : goal.returns-in-None
returns-in-None c = λ setting legal.
    let items = c.self.inside.entries in
    let told = c.end.ensures setting (reverse items) c.self.invariant.1 (subst (Legal setting) (sym c.self.view_is) legal) in
    let less = told.within c.in-Some.at c.in-Some.is in
    absurd (something_within items c.in-Some.at (omega (arith, less, length-reverse items)) (sym c.get.ensures ∙ c.in-None.is))
