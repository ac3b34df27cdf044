use Rattle.std.proofs.Common.{sym, subst}
use Rattle.qc_site.specs.Replica.{IsTableOf}
use Rattle.qc_site.proofs.Replicas.{table_unheld}
use Rattle.qc_site.proofs.beginning.Beginning.into_parts.Goals as goal

pub returns-clause-locks : goal.returns-clause-locks
returns-clause-locks c = λ past copy nothing.
    subst (λ row. IsTableOf row past copy c.self.inside.locks) c.self.view_is
    (subst (IsTableOf c.self.inside.start.items past copy) (sym c.self.invariant) (table_unheld c.self.inside.start.items past copy nothing))
