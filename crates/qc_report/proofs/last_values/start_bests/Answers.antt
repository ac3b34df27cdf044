use Rattle.std.proofs.Common.{◌∙◌}
use Rattle.qc_report.proofs.Bests.{records_more}
use Rattle.qc_report.proofs.last_values.start_bests.Goals as goal

pub loop-rec-preserved : goal.loop-rec-preserved
loop-rec-preserved c =
    c.in_ok-push.ensures.items ∙ records_more c.args.base.now c.loop-rec.rec c.loop-rec.bests.items c.start_best.result c.loop-rec.invariant c.start_best.ensures
