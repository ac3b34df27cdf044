use Rattle.std.proofs.Common.{ap, ◌∙◌}
use Rattle.qc_lane.proofs.Moves.{tells, bounds}
use Rattle.qc_lane.proofs.queue.tell.Goals as goal

pub absorb-requires-clause-rule : goal.absorb-requires-clause-rule
absorb-requires-clause-rule g c = tells g.T.Posted.requests _ _ _ _

pub learn_as-requires-clause-rule : goal.learn_as-requires-clause-rule
learn_as-requires-clause-rule g c = bounds g.T.Posted.requests _ _ (ap (λ v. v.puts) c.absorb.ensures.rule ∙ c.requires.puts)
