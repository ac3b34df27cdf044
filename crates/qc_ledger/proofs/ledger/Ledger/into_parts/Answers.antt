-- Its pass is known.
use Rattle.qc_desk.proofs.Known.{known_again}
use Rattle.qc_event.specs.Tables.{setting_of}
use Rattle.qc_ledger.proofs.ledger.Ledger.into_parts.Goals as goal

pub returns-clause-known : goal.returns-clause-known
returns-clause-known g c = known_again (setting_of g.N.Store.table g.N.Store.base) c.args.self.pass c.args.self.known
