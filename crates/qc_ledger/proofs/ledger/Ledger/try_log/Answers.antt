-- The journal is brought up, the top in hand is settled, and then the record is written and its top settled.
use Rattle.std.proofs.Common.{sym, ◌∙◌, subst}
use Rattle.std.specs.Bool.{OnFalse}
use Rattle.std.specs.Prelude.{None, Some}
use Rattle.qc_codec.specs.declared.past.Logged.{Logged}
use Rattle.qc_journal.specs.Journal.{IsUp, disk_of}
use Rattle.qc_ledger.specs.Calls.{ledger_state}
use Rattle.qc_ledger.specs.Shelf.{journal_in}
use Rattle.qc_ledger.specs.Since.{IsNext}
use Rattle.qc_ledger.proofs.Calls.{became_last, became_on, logs, looked, risen, then_entered, wrote_top}
use Rattle.qc_ledger.proofs.ledger.Ledger.try_log.Goals as goal

pub returns-in_err-rise-clause-became : goal.returns-in_err-rise-clause-became
returns-in_err-rise-clause-became g c =
    let logged : Logged = record { top = c.args.top.now; aborted = c.args.aborted.now } in
    let old = ledger_state c.args.self.now in
    let up = ledger_state c.rise.new.self in
    logs logged old up (risen old up (g.met.D.Disk.leaves_now (disk_of (journal_in old.shelf))) c.rise.ensures.any_moment c.rise.ensures.falls c.rise.ensures.pass c.rise.ensures.limit c.rise.ensures.place c.rise.ensures.over).0

pub returns-in_err-settle-clause-became : goal.returns-in_err-settle-clause-became
returns-in_err-settle-clause-became g c =
    let logged : Logged = record { top = c.args.top.now; aborted = c.args.aborted.now } in
    let old = ledger_state c.args.self.now in
    let up = ledger_state c.rise.new.self in
    let settled = ledger_state c.settle.new.self in
    logs logged old settled (then_entered old up settled (g.met.D.Disk.leaves_now (disk_of (journal_in up.shelf))) (risen old up (g.met.D.Disk.leaves_now (disk_of (journal_in old.shelf))) c.rise.ensures.any_moment c.rise.ensures.falls c.rise.ensures.pass c.rise.ensures.limit c.rise.ensures.place c.rise.ensures.over).0 c.settle.ensures.journal c.settle.ensures.seen c.settle.ensures.over)

pub returns-then-has_ended-clause-became : goal.returns-then-has_ended-clause-became
returns-then-has_ended-clause-became g c =
    let logged : Logged = record { top = c.args.top.now; aborted = c.args.aborted.now } in
    let old = ledger_state c.args.self.now in
    let up = ledger_state c.rise.new.self in
    let settled = ledger_state c.settle.new.self in
    let looks = ledger_state c.has_ended.new.self in
    logs logged old looks
    (became_on None old settled looks (g.met.D.Disk.leaves_now (disk_of (journal_in settled.shelf)))
    (then_entered old up settled (g.met.D.Disk.leaves_now (disk_of (journal_in up.shelf))) (risen old up (g.met.D.Disk.leaves_now (disk_of (journal_in old.shelf))) c.rise.ensures.any_moment c.rise.ensures.falls c.rise.ensures.pass c.rise.ensures.limit c.rise.ensures.place c.rise.ensures.over).0 c.settle.ensures.journal c.settle.ensures.seen c.settle.ensures.over)
    (looked settled looks (g.met.D.Disk.leaves_now (disk_of (journal_in settled.shelf))) c.has_ended.ensures.shelf.0 c.has_ended.ensures.shelf.1 c.has_ended.ensures.mine c.has_ended.ensures.seen))

pub returns-in_err-write-clause-became : goal.returns-in_err-write-clause-became
returns-in_err-write-clause-became g c =
    let logged : Logged = record { top = c.args.top.now; aborted = c.args.aborted.now } in
    let old = ledger_state c.args.self.now in
    let up = ledger_state c.rise.new.self in
    let settled = ledger_state c.settle.new.self in
    let looks = ledger_state c.has_ended.new.self in
    let wrote = ledger_state c.write.new.self in
    became_on (Some logged) old looks wrote (g.met.D.Disk.leaves_now (disk_of (journal_in looks.shelf)))
    (became_on None old settled looks (g.met.D.Disk.leaves_now (disk_of (journal_in settled.shelf)))
    (then_entered old up settled (g.met.D.Disk.leaves_now (disk_of (journal_in up.shelf))) (risen old up (g.met.D.Disk.leaves_now (disk_of (journal_in old.shelf))) c.rise.ensures.any_moment c.rise.ensures.falls c.rise.ensures.pass c.rise.ensures.limit c.rise.ensures.place c.rise.ensures.over).0 c.settle.ensures.journal c.settle.ensures.seen c.settle.ensures.over)
    (looked settled looks (g.met.D.Disk.leaves_now (disk_of (journal_in settled.shelf))) c.has_ended.ensures.shelf.0 c.has_ended.ensures.shelf.1 c.has_ended.ensures.mine c.has_ended.ensures.seen))
    (wrote_top logged looks wrote c.has_ended.ensures.own (subst (λ b. OnFalse b (IsNext looks.pass.seen logged.top)) c.if-has_ended.false c.has_ended.ensures.next)
    (g.met.D.Disk.reads_as_image (disk_of (journal_in looks.shelf))) (subst (λ j. IsUp j) (sym (c.has_ended.ensures.shelf.0 ∙ c.settle.ensures.journal)) c.in_ok-rise.ensures.up) (c.has_ended.ensures.shelf.1 ∙ c.in_ok-settle.ensures.none)
    c.write.ensures.any_moment c.write.ensures.grows c.write.ensures.pass c.write.ensures.limit c.write.ensures.place c.write.ensures.over)

pub returns-clause-became : goal.returns-clause-became
returns-clause-became g c =
    let logged : Logged = record { top = c.args.top.now; aborted = c.args.aborted.now } in
    let old = ledger_state c.args.self.now in
    let up = ledger_state c.rise.new.self in
    let settled = ledger_state c.settle.new.self in
    let looks = ledger_state c.has_ended.new.self in
    let wrote = ledger_state c.write.new.self in
    let last = ledger_state c.settle-2.new.self in
    became_last (Some logged) old wrote last (g.met.D.Disk.leaves_now (disk_of (journal_in wrote.shelf)))
    (became_on (Some logged) old looks wrote (g.met.D.Disk.leaves_now (disk_of (journal_in looks.shelf)))
    (became_on None old settled looks (g.met.D.Disk.leaves_now (disk_of (journal_in settled.shelf)))
    (then_entered old up settled (g.met.D.Disk.leaves_now (disk_of (journal_in up.shelf))) (risen old up (g.met.D.Disk.leaves_now (disk_of (journal_in old.shelf))) c.rise.ensures.any_moment c.rise.ensures.falls c.rise.ensures.pass c.rise.ensures.limit c.rise.ensures.place c.rise.ensures.over).0 c.settle.ensures.journal c.settle.ensures.seen c.settle.ensures.over)
    (looked settled looks (g.met.D.Disk.leaves_now (disk_of (journal_in settled.shelf))) c.has_ended.ensures.shelf.0 c.has_ended.ensures.shelf.1 c.has_ended.ensures.mine c.has_ended.ensures.seen))
    (wrote_top logged looks wrote c.has_ended.ensures.own (subst (λ b. OnFalse b (IsNext looks.pass.seen logged.top)) c.if-has_ended.false c.has_ended.ensures.next)
    (g.met.D.Disk.reads_as_image (disk_of (journal_in looks.shelf))) (subst (λ j. IsUp j) (sym (c.has_ended.ensures.shelf.0 ∙ c.settle.ensures.journal)) c.in_ok-rise.ensures.up) (c.has_ended.ensures.shelf.1 ∙ c.in_ok-settle.ensures.none)
    c.write.ensures.any_moment c.write.ensures.grows c.write.ensures.pass c.write.ensures.limit c.write.ensures.place c.write.ensures.over))
    c.settle-2.ensures.journal c.settle-2.ensures.seen c.settle-2.ensures.over
