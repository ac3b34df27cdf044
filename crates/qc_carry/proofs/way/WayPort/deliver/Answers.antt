-- A request that was asked is to a copy that is there, and what was answered stands for ever.
use Rattle.qc_event.specs.History.{asked}
use Rattle.qc_event.specs.Tables.{setting_of}
use Rattle.qc_event.proofs.Asked.{asked_fits}
use Rattle.qc_desk.proofs.Consulting.{asked_later, stands}
use Rattle.qc_desk.proofs.Known.{known_again}
use Rattle.qc_desk.proofs.Answered.{gave_later}
use Rattle.qc_carry.proofs.way.WayPort.deliver.Goals as goal

pub serve-served-requires-clause-copy : goal.serve-served-requires-clause-copy
serve-served-requires-clause-copy g c =
    let seen = c.args.self.now.pass.seen in
    let ask = c.args.ask.now in
    let there = stands (asked seen ask.access) ask c.requires in
    (asked_fits (setting_of g.N.Store.table g.N.Store.base) seen ask.access (record { seat = there.0; ask = ask }) c.args.self.now.system.now.proper (known_again (setting_of g.N.Store.table g.N.Store.base) c.args.self.now.pass c.args.self.now.known).legal there.1).is_copy

pub invariant_of-self : goal.invariant_of-self
invariant_of-self g c = record { found = λ full. c.serve-served.ensures.room (c.is_full-self.ensures.room full); known = ∣ c.serve-served.ensures.known ∣₁ }

pub returns-clause-may : goal.returns-clause-may
returns-clause-may g c = λ other h. asked_later c.args.self.now.pass.seen c.serve-served.new.seer.seen other c.serve-served.ensures.seer.older h

pub returns-clause-gave : goal.returns-clause-gave
returns-clause-gave g c = λ other answer h. gave_later c.args.self.now.pass.seen c.serve-served.new.seer.seen other answer c.serve-served.ensures.seer.older h
