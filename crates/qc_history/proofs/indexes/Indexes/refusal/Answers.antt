use Rattle.std.proofs.Common.{reverse, sym, ap, ◌∙◌}
use Rattle.std.specs.Prelude.{option_and_then}
use Rattle.qc_event.specs.declared.event.Entry.{Entry}
use Rattle.qc_history.specs.Refusals.{refusal_of, refused_name}
use Rattle.qc_history.proofs.Answering.{first_refusal}
use Rattle.qc_history.proofs.indexes.Indexes.refusal.Goals as goal

pub returns-in-Some : goal.returns-in-Some
returns-in-Some c = λ setting beside names legal.
    c.refusal_of.ensures ∙ ap (option_and_then (λ (e : Entry). refusal_of e.event)) (sym c.in-Some.is ∙ c.first.ensures refused_name setting beside.refusals names legal)
    ∙ first_refusal (reverse c.args.entries.now) c.args.access.now

pub returns-in-None : goal.returns-in-None
returns-in-None c = λ setting beside names legal.
    ap (option_and_then (λ (e : Entry). refusal_of e.event)) (sym c.in-None.is ∙ c.first.ensures refused_name setting beside.refusals names legal)
    ∙ first_refusal (reverse c.args.entries.now) c.args.access.now
