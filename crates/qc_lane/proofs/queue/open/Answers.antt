use Rattle.qc_lane.proofs.Moves.{begins}
use Rattle.qc_lane.proofs.queue.open.Goals as goal

pub ruled-requires-clause-rule : goal.ruled-requires-clause-rule
ruled-requires-clause-rule g c = begins g.T.Posted.requests
