use Rattle.std.proofs.Common.{sym, ◌∙◌}
use Rattle.qc_history.proofs.AbortsBelow.{unplaced_none}
use Rattle.qc_history.proofs.aborts.Aborts.last_below.Goals as goal

pub returns-in-None : goal.returns-in-None
returns-in-None c = λ setting past was names legal. sym (unplaced_none setting past c.args.top.now legal (sym (c.place.ensures.place setting past names legal) ∙ c.in-None.is))
