use Rattle.std.proofs.Common.{reverse, sym, ap, ◌∙◌}
use Rattle.std.specs.Prelude.{option_and_then}
use Rattle.qc_event.specs.declared.event.Entry.{Entry}
use Rattle.qc_event.specs.History.{gone_in}
use Rattle.qc_looks.specs.Subjects.{gone_name}
use Rattle.qc_looks.proofs.FirstTold.{first_gone}
use Rattle.qc_looks.proofs.requests.Requests.gone.Goals as goal

pub returns-in-Some : goal.returns-in-Some
returns-in-Some c = λ setting kept names legal.
    c.gone_in.ensures ∙ ap (option_and_then (λ (e : Entry). gone_in c.args.access.now e.event)) (sym c.in-Some.is ∙ c.first.ensures gone_name setting kept.gone names legal)
    ∙ first_gone (reverse c.args.entries.now) c.args.access.now

pub returns-in-None : goal.returns-in-None
returns-in-None c = λ setting kept names legal.
    ap (option_and_then (λ (e : Entry). gone_in c.args.access.now e.event)) (sym c.in-None.is ∙ c.first.ensures gone_name setting kept.gone names legal)
    ∙ first_gone (reverse c.args.entries.now) c.args.access.now
