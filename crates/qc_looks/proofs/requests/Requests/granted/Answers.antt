use Rattle.std.proofs.Common.{reverse, sym, ap, ◌∙◌}
use Rattle.std.specs.Prelude.{option_and_then}
use Rattle.qc_event.specs.declared.event.Entry.{Entry}
use Rattle.qc_event.specs.History.{grant_in}
use Rattle.qc_history.specs.Grants.{granted_name}
use Rattle.qc_looks.proofs.FirstTold.{first_granted}
use Rattle.qc_looks.proofs.requests.Requests.granted.Goals as goal

pub returns-in-Some : goal.returns-in-Some
returns-in-Some c = λ setting kept names legal.
    c.grant_in.ensures ∙ ap (option_and_then (λ (e : Entry). grant_in c.args.access.now e.event)) (sym c.in-Some.is ∙ c.first.ensures granted_name setting kept.granted names legal)
    ∙ first_granted (reverse c.args.entries.now) c.args.access.now

pub returns-in-None : goal.returns-in-None
returns-in-None c = λ setting kept names legal.
    ap (option_and_then (λ (e : Entry). grant_in c.args.access.now e.event)) (sym c.in-None.is ∙ c.first.ensures granted_name setting kept.granted names legal)
    ∙ first_granted (reverse c.args.entries.now) c.args.access.now
