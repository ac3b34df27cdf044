use Rattle.std.proofs.Common.{◌∙◌, arith}
use Rattle.qc_script.specs.MadePlan.{made_row}
use Rattle.qc_script.proofs.MadeRows.{one_more}
use Rattle.qc_script.proofs.made.made_rows.Goals as goal

pub loop-rec-preserved : goal.loop-rec-preserved
loop-rec-preserved c =
    c.in_ok-push.ensures.items
    ∙ one_more made_row 0 c.loop-rec.rec c.loop-rec.rec c.loop-rec.rows.items c.in_ok-row.row (omega arith) c.loop-rec.invariant c.in_ok-row.ensures
