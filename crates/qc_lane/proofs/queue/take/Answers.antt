use Rattle.std.proofs.Common.{ap, ◌∙◌}
use Rattle.qc_lane.proofs.Moves.{takes}
use Rattle.qc_lane.proofs.queue.take.Goals as goal

pub try_pop_as-requires-clause-rule : goal.try_pop_as-requires-clause-rule
try_pop_as-requires-clause-rule g c = takes g.T.Posted.requests _ _ (ap (λ v. v.takes) c.loop.invariant.same ∙ c.requires.takes)
