-- The journal is brought up, and nothing is written.
use Rattle.qc_journal.specs.Journal.{disk_of}
use Rattle.qc_ledger.specs.Calls.{ledger_state}
use Rattle.qc_ledger.specs.Shelf.{journal_in}
use Rattle.qc_ledger.proofs.Calls.{none_on, risen, then_entered}
use Rattle.qc_ledger.proofs.ledger.Ledger.revive.Goals as goal

pub returns-in_err-rise-clause-became : goal.returns-in_err-rise-clause-became
returns-in_err-rise-clause-became g c =
    let old = ledger_state c.args.self.now in
    let up = ledger_state c.rise.new.self in
    (risen old up (g.met.D.Disk.leaves_now (disk_of (journal_in old.shelf))) c.rise.ensures.any_moment c.rise.ensures.falls c.rise.ensures.pass c.rise.ensures.limit c.rise.ensures.place c.rise.ensures.over).0

pub returns-in_err-rise-clause-wrote_none : goal.returns-in_err-rise-clause-wrote_none
returns-in_err-rise-clause-wrote_none g c =
    let old = ledger_state c.args.self.now in
    let up = ledger_state c.rise.new.self in
    (risen old up (g.met.D.Disk.leaves_now (disk_of (journal_in old.shelf))) c.rise.ensures.any_moment c.rise.ensures.falls c.rise.ensures.pass c.rise.ensures.limit c.rise.ensures.place c.rise.ensures.over).1

pub returns-clause-became : goal.returns-clause-became
returns-clause-became g c =
    let old = ledger_state c.args.self.now in
    let up = ledger_state c.rise.new.self in
    let settled = ledger_state c.settle.new.self in
    then_entered old up settled (g.met.D.Disk.leaves_now (disk_of (journal_in up.shelf))) (risen old up (g.met.D.Disk.leaves_now (disk_of (journal_in old.shelf))) c.rise.ensures.any_moment c.rise.ensures.falls c.rise.ensures.pass c.rise.ensures.limit c.rise.ensures.place c.rise.ensures.over).0 c.settle.ensures.journal c.settle.ensures.seen c.settle.ensures.over

pub returns-clause-wrote_none : goal.returns-clause-wrote_none
returns-clause-wrote_none g c =
    let old = ledger_state c.args.self.now in
    let up = ledger_state c.rise.new.self in
    let settled = ledger_state c.settle.new.self in
    none_on old up settled (g.met.D.Disk.leaves_now (disk_of (journal_in up.shelf))) (risen old up (g.met.D.Disk.leaves_now (disk_of (journal_in old.shelf))) c.rise.ensures.any_moment c.rise.ensures.falls c.rise.ensures.pass c.rise.ensures.limit c.rise.ensures.place c.rise.ensures.over).1 c.settle.ensures.journal c.settle.ensures.seen
