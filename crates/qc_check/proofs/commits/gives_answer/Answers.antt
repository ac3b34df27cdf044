use Rattle.std.proofs.Common.{◌≡◌, ap, ◌∙◌, subst}
use Rattle.std.specs.Prelude.{IsTrue, ◌↔◌}
use Rattle.qc_config.specs.Config.{Voting}
use Rattle.qc_event.specs.Base.{first_of}
use Rattle.qc_event.specs.Commits.{manager_answer}
use Rattle.qc_check.proofs.commits.gives_answer.Goals as goal

pub returns : goal.returns
returns g c =
    subst (λ (first : Voting). IsTrue c.is_manager_answer.result ↔ (c.args.given.now ≡ manager_answer (g.H.Looks.past c.args.h.now) first c.args.m.now c.args.kind.now))
    (c.first.ensures ∙ ap (first_of c.args.setting.now) c.record_of.ensures) c.is_manager_answer.ensures
