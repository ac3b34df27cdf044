use Rattle.std.proofs.Common.{◌≡◌, false, reverse, sym, ap, ◌∙◌, inl, inr}
use Rattle.std.specs.Prelude.{is_some}
use Rattle.qc_event.specs.declared.event.Why.TheVariants.{Down, Full, Strange}
use Rattle.qc_event.specs.Requests.{is_fault, was_unable}
use Rattle.qc_looks.specs.Subjects.{unable_name}
use Rattle.qc_looks.proofs.FirstTold.{found_unable, never_unable}
use Rattle.qc_looks.proofs.requests.Requests.was_unable.Goals as goal

pub returns-in-Down : goal.returns-in-Down
returns-in-Down c = λ setting kept names legal.
    let past = reverse c.args.entries.now in
    let n = c.args.n.now in
    c.is_some.ensures ∙ ap is_some (c.first.ensures (unable_name Down) setting kept.down names legal) ∙ found_unable n Down past ∙ ap (was_unable past n) (sym c.in-Down.is)

pub returns-in-Full : goal.returns-in-Full
returns-in-Full c = λ setting kept names legal.
    let past = reverse c.args.entries.now in
    let n = c.args.n.now in
    c.is_some-in-Full.ensures ∙ ap is_some (c.first-in-Full.ensures (unable_name Full) setting kept.full names legal) ∙ found_unable n Full past ∙ ap (was_unable past n) (sym c.in-Full.is)

pub returns-in-Strange : goal.returns-in-Strange
returns-in-Strange c = λ setting kept names legal.
    let past = reverse c.args.entries.now in
    let n = c.args.n.now in
    c.is_some-in-Strange.ensures ∙ ap is_some (c.first-in-Strange.ensures (unable_name Strange) setting kept.strange names legal) ∙ found_unable n Strange past ∙ ap (was_unable past n) (sym c.in-Strange.is)

pub returns-in-Lost : goal.returns-in-Lost
returns-in-Lost c = λ setting kept names legal.
    let harmless : is_fault c.args.why ≡ false = elim c.in-Lost.is [ inl lost ↦ ap is_fault lost | inr late ↦ ap is_fault late ] in
    never_unable setting c.args.n.now c.args.why harmless (reverse c.args.entries.now) legal
