-- A pass is lent to its way, and has then seen what its port has.
use Rattle.std.proofs.Common.{sym, ap, ◌∙◌, subst}
use Rattle.std.specs.Prelude.{All, Err}
use Rattle.std.proofs.lemmas.Result.{err_from_is_err_and}
use Rattle.qc_net.specs.Courier.{held_of}
use Rattle.qc_desk.specs.Calling.{SeesMore}
use Rattle.qc_event.specs.Tables.{setting_of}
use Rattle.qc_desk.specs.Consulting.{HasAsked}
use Rattle.qc_desk.specs.Known.{IsKnown}
use Rattle.qc_desk.specs.declared.view.View.{View}
use Rattle.qc_desk.proofs.Known.{known_again}
use Rattle.qc_carry.proofs.Ending.{want_short}
use Rattle.qc_carry.proofs.Walking as walking
use Rattle.qc_carry.proofs.way.send.Goals as goal

pub send-sent-requires-clause-ask : goal.send-sent-requires-clause-ask
send-sent-requires-clause-ask g c =
    subst (λ (v : View). HasAsked v.seen c.args.ask.now) (sym (c.replace.ensures.value ∙ c.note-note.ensures.1)) c.requires.asked

pub send-sent-requires-clause-held : goal.send-sent-requires-clause-held
send-sent-requires-clause-held g c =
    subst (λ (v : View). All (HasAsked v.seen) (held_of c.args.courier.now)) (sym (c.replace.ensures.value ∙ c.note-note.ensures.1)) c.requires.held

pub returns-clause-walk : goal.returns-clause-walk
returns-clause-walk g c =
    let w = c.send-sent.new.port.pass in
    walking.of_seen c.args.pass.now w c.requires.client c.requires.known.mine (known_again (setting_of g.N.Store.table g.N.Store.base) w c.send-sent.new.port.known).mine (subst (λ (v : View). SeesMore v w) (c.replace.ensures.value ∙ c.note-note.ensures.1) c.send-sent.ensures.became)

pub returns-in_err-sent-clause-walk : goal.returns-in_err-sent-clause-walk
returns-in_err-sent-clause-walk g c =
    let w = c.send-sent.new.port.pass in
    walking.of_seen c.args.pass.now w c.requires.client c.requires.known.mine (known_again (setting_of g.N.Store.table g.N.Store.base) w c.send-sent.new.port.known).mine (subst (λ (v : View). SeesMore v w) (c.replace.ensures.value ∙ c.note-note.ensures.1) c.send-sent.ensures.became)

pub returns-in_err-sent-clause-err : goal.returns-in_err-sent-clause-err
returns-in_err-sent-clause-err g c =
    let w = c.send-sent.new.port.pass in
    let p = err_from_is_err_and c.from_residual.result c.from_residual.ensures.1 in
    rw (p.1, p.2) (want_short c.args.pass.now w c.in_err-sent.field-0.0 (returns-in_err-sent-clause-walk g c) (λ is. c.send-sent.new.port.found (c.in_err-sent.ensures.room (ap Err is))))

pub invariant_of-way : goal.invariant_of-way
invariant_of-way g c =
    record { found = λ full. absurd cc; known = ∣ subst (IsKnown (setting_of g.N.Store.table g.N.Store.base)) (sym (c.replace.ensures.value ∙ c.note-note.ensures.1)) c.requires.known ∣₁ }

pub returns-clause-known : goal.returns-clause-known
returns-clause-known g c = known_again (setting_of g.N.Store.table g.N.Store.base) c.send-sent.new.port.pass c.send-sent.new.port.known

pub returns-in_err-sent-clause-known : goal.returns-in_err-sent-clause-known
returns-in_err-sent-clause-known g c = known_again (setting_of g.N.Store.table g.N.Store.base) c.send-sent.new.port.pass c.send-sent.new.port.known
