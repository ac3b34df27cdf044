use Rattle.std.proofs.Common.{sym, subst}
use Rattle.qc_history.specs.Firsts.{AreFirstsOf}
use Rattle.qc_history.proofs.FirstEntries.{firsts_none}
use Rattle.qc_history.proofs.firsts.Firsts.new.Goals as goal

pub returns : goal.returns
returns c = λ subject. subst (AreFirstsOf subject _) (sym c.new.ensures.items) (firsts_none subject)
