use Rattle.std.proofs.Common.{◌∙◌, sym}
use Rattle.qc_run.proofs.Doubts.{doubt_found, no_doubt}
use Rattle.qc_run.proofs.finishing.conclude.Goals as goal

pub returns-in-Ok-write_all-clause-doubt : goal.returns-in-Ok-write_all-clause-doubt
returns-in-Ok-write_all-clause-doubt g c = doubt_found c.args.trail.now (sym c.in-Ok.ensures.doubt ∙ c.if-page.true)

pub returns-in-Ok-2-clause-doubt : goal.returns-in-Ok-2-clause-doubt
returns-in-Ok-2-clause-doubt g c = no_doubt c.args.trail.now (sym c.in-Ok.ensures.doubt ∙ c.if-page.false)
