use Rattle.std.proofs.Common.{subst}
use Rattle.qc_history.specs.Index.{IsOf}
use Rattle.qc_history.proofs.history.History.names.Goals as goal

pub returns : goal.returns
returns c = subst (IsOf c.self.inside.index) c.self.view_is c.self.invariant.1
