-- That a top was not logged comes behind what was tried.
use Rattle.std.specs.Prelude.{Some}
use Rattle.qc_codec.specs.declared.past.Logged.{Logged}
use Rattle.qc_journal.specs.Journal.{disk_of}
use Rattle.qc_ledger.specs.Calls.{ledger_state}
use Rattle.qc_ledger.specs.Shelf.{journal_in}
use Rattle.qc_ledger.proofs.Calls.{became_last}
use Rattle.qc_desk.proofs.Listed.{ready_stays}
use Rattle.qc_ledger.proofs.Passes.{sees_on}
use Rattle.qc_ledger.proofs.ledger.Ledger.log.Goals as goal

pub unable-requires-clause-ready : goal.unable-requires-clause-ready
unable-requires-clause-ready g c = ready_stays c.args.seer.now.seen c.try_log.new.seer.seen c.args.top.now c.try_log.ensures.seer.older c.requires.ready

pub unable-requires-in-Err-Full-clause-ready : goal.unable-requires-in-Err-Full-clause-ready
unable-requires-in-Err-Full-clause-ready g c = ready_stays c.args.seer.now.seen c.try_log.new.seer.seen c.args.top.now c.try_log.ensures.seer.older c.requires.ready

pub returns-in_err-unable-in-Err-Disk-clause-became : goal.returns-in_err-unable-in-Err-Disk-clause-became
returns-in_err-unable-in-Err-Disk-clause-became g c =
    let logged : Logged = record { top = c.args.top.now; aborted = c.args.aborted.now } in
    became_last (Some logged) (ledger_state c.args.self.now) (ledger_state c.try_log.new.self) (ledger_state c.unable.new.self) (g.met.D.Disk.leaves_now (disk_of (journal_in c.try_log.new.self.shelf)))
    c.try_log.ensures.became c.unable.ensures.journal c.unable.ensures.seen c.unable.ensures.over

pub returns-in_err-unable-in-Err-Disk-clause-seer : goal.returns-in_err-unable-in-Err-Disk-clause-seer
returns-in_err-unable-in-Err-Disk-clause-seer g c = sees_on c.args.seer.now c.try_log.new.seer c.unable.new.seer c.try_log.ensures.seer c.unable.ensures.seer

pub returns-in_err-unable-in-Err-Full-clause-became : goal.returns-in_err-unable-in-Err-Full-clause-became
returns-in_err-unable-in-Err-Full-clause-became g c =
    let logged : Logged = record { top = c.args.top.now; aborted = c.args.aborted.now } in
    became_last (Some logged) (ledger_state c.args.self.now) (ledger_state c.try_log.new.self) (ledger_state c.unable-in-Err-Full.new.self) (g.met.D.Disk.leaves_now (disk_of (journal_in c.try_log.new.self.shelf)))
    c.try_log.ensures.became c.unable-in-Err-Full.ensures.journal c.unable-in-Err-Full.ensures.seen c.unable-in-Err-Full.ensures.over

pub returns-in_err-unable-in-Err-Full-clause-seer : goal.returns-in_err-unable-in-Err-Full-clause-seer
returns-in_err-unable-in-Err-Full-clause-seer g c = sees_on c.args.seer.now c.try_log.new.seer c.unable-in-Err-Full.new.seer c.try_log.ensures.seer c.unable-in-Err-Full.ensures.seer

pub returns-in_ok-unable-in-Err-Disk-clause-became : goal.returns-in_ok-unable-in-Err-Disk-clause-became
returns-in_ok-unable-in-Err-Disk-clause-became g c =
    let logged : Logged = record { top = c.args.top.now; aborted = c.args.aborted.now } in
    became_last (Some logged) (ledger_state c.args.self.now) (ledger_state c.try_log.new.self) (ledger_state c.unable.new.self) (g.met.D.Disk.leaves_now (disk_of (journal_in c.try_log.new.self.shelf)))
    c.try_log.ensures.became c.unable.ensures.journal c.unable.ensures.seen c.unable.ensures.over

pub returns-in_ok-unable-in-Err-Disk-clause-seer : goal.returns-in_ok-unable-in-Err-Disk-clause-seer
returns-in_ok-unable-in-Err-Disk-clause-seer g c = sees_on c.args.seer.now c.try_log.new.seer c.unable.new.seer c.try_log.ensures.seer c.unable.ensures.seer

pub returns-in_ok-unable-in-Err-Full-clause-became : goal.returns-in_ok-unable-in-Err-Full-clause-became
returns-in_ok-unable-in-Err-Full-clause-became g c =
    let logged : Logged = record { top = c.args.top.now; aborted = c.args.aborted.now } in
    became_last (Some logged) (ledger_state c.args.self.now) (ledger_state c.try_log.new.self) (ledger_state c.unable-in-Err-Full.new.self) (g.met.D.Disk.leaves_now (disk_of (journal_in c.try_log.new.self.shelf)))
    c.try_log.ensures.became c.unable-in-Err-Full.ensures.journal c.unable-in-Err-Full.ensures.seen c.unable-in-Err-Full.ensures.over

pub returns-in_ok-unable-in-Err-Full-clause-seer : goal.returns-in_ok-unable-in-Err-Full-clause-seer
returns-in_ok-unable-in-Err-Full-clause-seer g c = sees_on c.args.seer.now c.try_log.new.seer c.unable-in-Err-Full.new.seer c.try_log.ensures.seer c.unable-in-Err-Full.ensures.seer
