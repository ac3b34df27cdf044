use Rattle.std.proofs.Common.{◌≡◌, reverse, sym, ap, ◌∙◌, arith}
use Rattle.std.specs.Prelude.{Some, slice_get}
use Rattle.std.specs.Option.{option_map}
use Rattle.std.proofs.lemmas.List.{reverse-reverse, length-reverse}
use Rattle.qc_event.specs.History.{Begun, start}
use Rattle.qc_event.proofs.OneEntry.{not_some, some_or_none}
use Rattle.qc_trail.proofs.Within.{something_within}
use Rattle.qc_history.proofs.index.Index.kind.Goals as goal

pub returns-in_default : goal.returns-in_default
returns-in_default c = λ setting is legal.
    let told = c.start.ensures setting (reverse c.args.entries.now) is legal in
    ap (option_map (λ (b : Begun). b.kind)) (sym (not_some (start (reverse c.args.entries.now) c.args.name.now) (λ h. some_or_none c.start.result (told.same ∙ h) c.in_default.is)))

pub returns-in-Some-get : goal.returns-in-Some-get
returns-in-Some-get c = λ setting is legal.
    let entries = c.args.entries.now in
    let e = c.in-Some-get.entry in
    let told = c.start.ensures setting (reverse entries) is legal in
    let here : slice_get entries c.in-Some.at ≡ Some e = sym c.get.ensures ∙ c.in-Some-get.is in
    c.kind_in.ensures ∙ ap (option_map (λ (b : Begun). b.kind)) (told.there c.in-Some.at e c.in-Some.is (ap (λ xs. slice_get xs c.in-Some.at) (reverse-reverse entries) ∙ here))

pub returns-in-None : goal.returns-in-None
returns-in-None c = λ setting is legal.
    let entries = c.args.entries.now in
    let told = c.start.ensures setting (reverse entries) is legal in
    let less = told.within c.in-Some.at c.in-Some.is in
    absurd (something_within entries c.in-Some.at (omega (arith, less, length-reverse entries)) (sym c.get.ensures ∙ c.in-None.is))
