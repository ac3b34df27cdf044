-- The record is not there: the journal keeps what it kept, and is up.
use Rattle.std.proofs.Common.{subst, if◌then◌else◌}
use Rattle.qc_journal.specs.Image.{HasAt}
use Rattle.qc_journal.specs.Journal.{Keeps, disk_of, in_hand, with_hand}
use Rattle.qc_journal.proofs.Moments.{continues, grows_by_falls, grows_on}
use Rattle.qc_ledger.specs.Runs.{HasOrMore}
use Rattle.qc_ledger.specs.Shelf.{journal_in}
use Rattle.qc_ledger.proofs.Logging.{stands_more}
use Rattle.qc_ledger.proofs.shelf.Shelf.write_again.Goals as goal

pub returns-clause-any_moment : goal.returns-clause-any_moment
returns-clause-any_moment g c = λ bodies k.
    let old = journal_in c.args.self.now in
    let mid = journal_in c.revive.new.self in
    let kept : Keeps mid bodies = subst (λ b. Keeps mid (if b then with_hand bodies (in_hand old) else bodies)) c.if-branch.false (c.in_ok-revive.ensures.tells bodies k) in
    continues g.D.Disk.view (disk_of old) (disk_of mid) (disk_of (journal_in c.write.new.self)) _ _ (HasOrMore bodies c.args.bytes.now) c.revive.ensures.any_moment (c.write.ensures.any_moment bodies kept)
    (λ image left. stands_more old.place bodies (in_hand old) c.args.bytes.now image c.requires.unsure.in_journal (k.each image left)) (λ image has. has)

pub returns-clause-grows : goal.returns-clause-grows
returns-clause-grows g c = λ bodies k index had.
    let old = journal_in c.args.self.now in
    let mid = journal_in c.revive.new.self in
    let kept : Keeps mid bodies = subst (λ b. Keeps mid (if b then with_hand bodies (in_hand old) else bodies)) c.if-branch.false (c.in_ok-revive.ensures.tells bodies k) in
    grows_on g.D.Disk.view (disk_of old) (disk_of mid) (disk_of (journal_in c.write.new.self)) (HasAt index had) _ c.revive.ensures.any_moment.later
    (grows_by_falls g.D.Disk.view (disk_of old) (disk_of mid) (HasAt index had) c.revive.ensures.falls) (c.write.ensures.any_moment bodies kept) (c.write.ensures.grows bodies kept index had)
