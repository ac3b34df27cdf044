use Rattle.std.proofs.Common.{reverse, sym, ap, ◌∙◌}
use Rattle.std.specs.Prelude.{option_and_then}
use Rattle.qc_event.specs.declared.event.Entry.{Entry}
use Rattle.qc_history.specs.Grants.{given_of, granted_name, tuple_at}
use Rattle.qc_history.proofs.Answering.{first_grant}
use Rattle.qc_history.proofs.indexes.Indexes.granted.Goals as goal

pub returns-in-Some : goal.returns-in-Some
returns-in-Some c = λ setting beside names legal.
    c.tuple_of.ensures ∙ ap (λ o. option_and_then (tuple_at c.args.copy) (option_and_then (λ (e : Entry). given_of e.event) o)) (sym c.in-Some.is ∙ c.first.ensures granted_name setting beside.first_grants names legal)
    ∙ ap (option_and_then (tuple_at c.args.copy)) (first_grant (reverse c.args.entries.now) c.args.access.now)

pub returns-in-None : goal.returns-in-None
returns-in-None c = λ setting beside names legal.
    ap (λ o. option_and_then (tuple_at c.args.copy) (option_and_then (λ (e : Entry). given_of e.event) o)) (sym c.in-None.is ∙ c.first.ensures granted_name setting beside.first_grants names legal)
    ∙ ap (option_and_then (tuple_at c.args.copy)) (first_grant (reverse c.args.entries.now) c.args.access.now)
