use Rattle.qc_lane.proofs.Moves.{notes}
use Rattle.qc_lane.proofs.queue.note.Goals as goal

pub another-requires-clause-rule : goal.another-requires-clause-rule
another-requires-clause-rule g c = notes g.T.Posted.requests _ _ c.requires.takes
