use Rattle.qc_lane.proofs.Moves.{seats}
use Rattle.qc_lane.proofs.queue.seat.Goals as goal

pub another-requires-clause-rule : goal.another-requires-clause-rule
another-requires-clause-rule g c = seats g.T.Posted.requests _ _ c.requires.takes
