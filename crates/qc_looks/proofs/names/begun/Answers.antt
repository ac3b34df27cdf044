use Rattle.std.proofs.Common.{◌≡◌, length, reverse, sym, ap, ◌∙◌, arith}
use Rattle.std.specs.Prelude.{Some, slice_get}
use Rattle.std.proofs.lemmas.List.{reverse-reverse, length-reverse}
use Rattle.qc_event.specs.History.{start}
use Rattle.qc_event.proofs.OneEntry.{not_some, some_or_none}
use Rattle.qc_trail.proofs.Within.{something_within}
use Rattle.qc_looks.proofs.names.begun.Goals as goal

pub returns-in_default : goal.returns-in_default
returns-in_default c = λ setting legal.
    let past = c.args.history.now in
    let told = c.start.ensures setting past c.names.ensures legal in
    sym (not_some (start past c.args.n.now) (λ h. some_or_none c.start.result (told.same ∙ h) c.in_default.is))

pub returns-in-Some-get : goal.returns-in-Some-get
returns-in-Some-get c = λ setting legal.
    let past = c.args.history.now in
    let items = c.entries.result.now in
    let e = c.in-Some-get.entry in
    let told = c.start.ensures setting past c.names.ensures legal in
    let here : slice_get items c.in-Some.at ≡ Some e = sym c.get.ensures ∙ c.in-Some-get.is in
    let same : reverse past ≡ items = ap reverse (sym c.entries.ensures) ∙ reverse-reverse items in
    c.start_in.ensures ∙ told.there c.in-Some.at e c.in-Some.is (ap (λ xs. slice_get xs c.in-Some.at) same ∙ here)

pub returns-in-None : goal.returns-in-None
returns-in-None c = λ setting legal.
    let past = c.args.history.now in
    let items = c.entries.result.now in
    let told = c.start.ensures setting past c.names.ensures legal in
    let less = told.within c.in-Some.at c.in-Some.is in
    absurd (something_within items c.in-Some.at (omega (arith, less, length-reverse items, ap length c.entries.ensures)) (sym c.get.ensures ∙ c.in-None.is))
