use Rattle.std.proofs.Common.{subst}
use Rattle.qc_history.specs.Indexes.{AreOf}
use Rattle.qc_history.proofs.history.History.beside.Goals as goal

pub returns : goal.returns
returns c = subst (AreOf c.self.inside.beside) c.self.view_is c.self.invariant.2
