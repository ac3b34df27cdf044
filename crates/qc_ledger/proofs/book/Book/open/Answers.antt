-- A journal that is not down is up.
use Rattle.qc_ledger.proofs.Logging.{up_by}
use Rattle.qc_ledger.proofs.book.Book.open.Goals as goal

pub returns-clause-up : goal.returns-clause-up
returns-clause-up g c = up_by c.args.self.journal.state c.args.self.up
