use Rattle.std.proofs.Common.{sym, subst}
use Rattle.qc_desk.specs.Consulting.{HasAsked}
use Rattle.qc_desk.specs.Entries.{IsOlder}
use Rattle.qc_desk.specs.declared.view.View.{View}
use Rattle.qc_desk.proofs.Answered.{full_still}
use Rattle.qc_mail.proofs.Replies.{own_answer, sees}
use Rattle.qc_mail.proofs.delivery.deliver.Goals as goal

pub returns-clause-answered : goal.returns-clause-answered
returns-clause-answered g c =
    let e = c.exchange-answer.result in
    own_answer e.note.seen c.show.new.seer.seen c.note-note.new.pass.seen e.ask c.args.ask.now e.answer
    (subst (IsOlder e.note.seen) (sym c.show.ensures.same) c.show.ensures.pass.0) c.show.ensures.seer.0 e.asked
    (subst (λ (v : View). HasAsked v.seen c.args.ask.now) (sym c.note-note.ensures.1) c.requires.asked) c.exchange-answer.ensures.access e.answered

pub returns-clause-room : goal.returns-clause-room
returns-clause-room g c = λ r.
    let e = c.exchange-answer.result in
    full_still e.note.seen c.show.new.seer.seen (subst (IsOlder e.note.seen) (sym c.show.ensures.same) c.show.ensures.pass.0) c.show.ensures.bounded (e.room r)

pub returns-clause-seer : goal.returns-clause-seer
returns-clause-seer g c = sees c.args.seer.now c.note-note.new.pass c.show.new.seer c.note-note.ensures.1 c.show.ensures.seer
