use Rattle.std.proofs.Common.{sym, ◌∙◌, subst}
use Rattle.qc_desk.specs.Consulting.{HasAsked}
use Rattle.qc_desk.proofs.Consulting.{asked_later}
use Rattle.qc_desk.proofs.Seers.{shown_twice}
use Rattle.qc_desk.proofs.desk.Desk.consult.Goals as goal

pub consult-told-requires-clause-asked : goal.consult-told-requires-clause-asked
consult-told-requires-clause-asked g c =
    let l = c.look.ensures in
    subst (λ p. HasAsked p c.args.ask.now) (sym (c.deref_mut-2.ensures.value ∙ l.same.0)) (asked_later c.args.seer.now.seen _ c.args.ask.now l.seen c.requires.asked)

pub returns-clause-shown : goal.returns-clause-shown
returns-clause-shown g c =
    let k = c.look.ensures in
    let m = c.look-2.ensures in
    shown_twice c.args.seer.now c.look.new.pass _ _ _ _ _ k.seen k.since k.same m.seen m.since m.same
