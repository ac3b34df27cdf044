use Rattle.std.proofs.Common.{subst}
use Rattle.qc_history.specs.Index.{IsOf}
use Rattle.qc_looks.specs.Indexed.{Known}
use Rattle.qc_looks.proofs.indexed.Indexed.names.Goals as goal

pub returns : goal.returns
returns c = subst (λ (k : Known). IsOf c.names.result.now k.past) c.self.view_is c.names.ensures
