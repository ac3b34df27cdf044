use Rattle.qc_history.proofs.FirstEntries.{firsts_wider}
use Rattle.qc_history.proofs.firsts.Firsts.make_room.Goals as goal

pub returns-clause-same : goal.returns-clause-same
returns-clause-same c = λ subject past was. firsts_wider subject past _ _ c.reach_name.ensures.same was
