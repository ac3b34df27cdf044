use Rattle.std.proofs.Common.{sym, ◌∙◌, subst}
use Rattle.std.specs.Prelude.{IsTrue, ◌↔◌}
use Rattle.qc_event.specs.declared.event.Cause.{Cause}
use Rattle.qc_event.specs.Aborts.{ManagerCause}
use Rattle.qc_check.proofs.aborts.is_manager_cause.Goals as goal

pub returns-in-Last : goal.returns-in-Last
returns-in-Last g c =
    subst (λ (cause : Cause). IsTrue c.is_at_last_number.result ↔ ManagerCause c.args.setting.now (g.H.Looks.past c.args.h.now) c.args.m.now c.args.kind.now cause) (sym c.in-Last.is)
    (λ e. sym c.is_at_last_number.ensures ∙ e, λ e. c.is_at_last_number.ensures ∙ e)
