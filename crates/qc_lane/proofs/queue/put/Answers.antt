use Rattle.qc_lane.proofs.Moves.{puts}
use Rattle.qc_lane.proofs.queue.put.Goals as goal

pub try_push_as-requires-clause-rule : goal.try_push_as-requires-clause-rule
try_push_as-requires-clause-rule g c = rw (c.loop.invariant.same, c.loop.invariant.item) (puts g.T.Posted.requests _ _ _ _ c.requires.puts c.requires.number)
