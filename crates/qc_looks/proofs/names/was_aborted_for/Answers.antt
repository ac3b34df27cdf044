use Rattle.std.proofs.Common.{sym, ap, ◌∙◌}
use Rattle.std.specs.Prelude.{Some}
use Rattle.std.proofs.lemmas.Option.{none-some, same_Some}
use Rattle.qc_event.specs.declared.event.How.TheVariants.{Abort}
use Rattle.qc_looks.proofs.names.was_aborted_for.Goals as goal

pub returns-in-Some : goal.returns-in-Some
returns-in-Some c = λ setting legal.
    let told = sym (c.end.ensures setting legal) ∙ c.in-Some.is in (
      λ r. told ∙ ap (λ h. Some h) (c.is_abort_for.ensures.0 r),
      λ is. c.is_abort_for.ensures.1 (same_Some c.in-Some.how (Abort c.args.cause.now) (sym told ∙ is)),
    )

pub returns-in-None : goal.returns-in-None
returns-in-None c = λ setting legal.
    let told = sym (c.end.ensures setting legal) ∙ c.in-None.is in
    (λ e. absurd cc, λ is. absurd (none-some (Abort c.args.cause.now) (sym told ∙ is)))
