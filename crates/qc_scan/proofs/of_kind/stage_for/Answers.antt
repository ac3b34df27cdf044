use Rattle.std.proofs.Common.{ap, ◌∙◌}
use Rattle.qc_config.specs.Config.{Voting}
use Rattle.qc_event.specs.Base.{first_of}
use Rattle.qc_event.specs.Manager as manager
use Rattle.qc_scan.proofs.of_kind.stage_for.Goals as goal

pub returns : goal.returns
returns g c =
    c.current_stage.ensures
    ∙ ap (λ (first : Voting). manager.stage (g.H.Looks.past c.args.h.now) first c.args.m.now c.args.kind.now) (c.first.ensures ∙ ap (first_of c.args.setting.now) c.record_of.ensures)
