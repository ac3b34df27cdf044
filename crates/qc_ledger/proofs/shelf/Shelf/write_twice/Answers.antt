-- Both tries write the same record.
use Rattle.qc_journal.specs.Image.{HasAt}
use Rattle.qc_journal.specs.Journal.{disk_of}
use Rattle.qc_journal.proofs.Moments.{continues, grows_on}
use Rattle.qc_ledger.specs.Runs.{HasOrMore}
use Rattle.qc_ledger.specs.Shelf.{journal_in}
use Rattle.qc_ledger.proofs.shelf.Shelf.write_twice.Goals as goal

pub returns-in-Err-Disk-clause-any_moment : goal.returns-in-Err-Disk-clause-any_moment
returns-in-Err-Disk-clause-any_moment g c = λ bodies k.
    continues g.D.Disk.view (disk_of (journal_in c.args.self.now)) (disk_of (journal_in c.write.new.self)) (disk_of (journal_in c.write_again.new.self)) _ _ (HasOrMore bodies c.args.bytes.now)
    (c.write.ensures.any_moment bodies k) (c.write_again.ensures.any_moment bodies (c.in-Err-Disk.ensures.kept bodies k)) (λ image has. has) (λ image has. has)

pub returns-in-Err-Disk-clause-grows : goal.returns-in-Err-Disk-clause-grows
returns-in-Err-Disk-clause-grows g c = λ bodies k index had.
    let kept = c.in-Err-Disk.ensures.kept bodies k in
    grows_on g.D.Disk.view (disk_of (journal_in c.args.self.now)) (disk_of (journal_in c.write.new.self)) (disk_of (journal_in c.write_again.new.self)) (HasAt index had) _ (c.write.ensures.any_moment bodies k).later
    (c.write.ensures.grows bodies k index had) (c.write_again.ensures.any_moment bodies kept) (c.write_again.ensures.grows bodies kept index had)
