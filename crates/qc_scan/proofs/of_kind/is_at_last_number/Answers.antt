use Rattle.std.proofs.Common.{ap, ◌∙◌}
use Rattle.qc_config.specs.Config.{Voting}
use Rattle.qc_event.specs.Base.{first_of}
use Rattle.qc_event.specs.Manager.{at_last_number}
use Rattle.qc_scan.proofs.of_kind.is_at_last_number.Goals as goal

pub returns : goal.returns
returns g c =
    c.at_last_number.ensures
    ∙ ap (λ (first : Voting). at_last_number (g.H.Looks.past c.args.h.now) first c.args.m.now c.args.kind.now) (c.first.ensures ∙ ap (first_of c.args.setting.now) c.record_of.ensures)
