-- The bytes written are the record's.
use Rattle.std.proofs.Common.{List, ℕ, ◌∙◌, subst}
use Rattle.qc_disk.specs.Disk.{LeavesOnly}
use Rattle.qc_journal.specs.Journal.{disk_of}
use Rattle.qc_ledger.specs.Runs.{HasOrMore}
use Rattle.qc_ledger.specs.Shelf.{journal_in}
use Rattle.qc_ledger.proofs.shelf.Shelf.log.Goals as goal

pub returns-clause-any_moment : goal.returns-clause-any_moment
returns-clause-any_moment g c = λ bodies k.
    subst (λ (b : List ℕ). LeavesOnly g.D.Disk.view (disk_of (journal_in c.args.self.now)) (disk_of (journal_in c.write_twice.new.self)) (HasOrMore bodies b))
    (c.deref.ensures.value ∙ c.in_ok-record.ensures.0) (c.write_twice.ensures.any_moment bodies k)
