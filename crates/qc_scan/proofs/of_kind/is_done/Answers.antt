use Rattle.std.proofs.Common.{ap, ◌∙◌}
use Rattle.qc_config.specs.Config.{Voting}
use Rattle.qc_event.specs.Base.{first_of}
use Rattle.qc_event.specs.Manager.{is_complete}
use Rattle.qc_scan.proofs.of_kind.is_done.Goals as goal

pub returns : goal.returns
returns g c =
    c.is_complete.ensures
    ∙ ap (λ (first : Voting). is_complete (g.H.Looks.past c.args.h.now) first c.args.m.now c.args.kind.now) (c.first.ensures ∙ ap (first_of c.args.setting.now) c.record_of.ensures)
