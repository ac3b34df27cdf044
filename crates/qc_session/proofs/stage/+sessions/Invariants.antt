use Rattle.std.proofs.Common.{◌+◌, ◌*◌, length}
use Rattle.qc_session.proofs.stage.+sessions.Given as goal

abbrev pub decreases-Stage::run_both : goal.decreases-Stage::run_both
decreases-Stage::run_both g l = 3 * length l.rest.now + 2

abbrev pub decreases-Stage::run_from : goal.decreases-Stage::run_from
decreases-Stage::run_from g l = 3 * length l.sessions.now

abbrev pub decreases-Stage::run_both-join+arg3 : goal.decreases-Stage::run_both-join+arg3
decreases-Stage::run_both-join+arg3 g l = 3 * length l.rest.now + 1
