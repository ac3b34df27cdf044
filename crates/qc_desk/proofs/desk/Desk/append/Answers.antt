use Rattle.std.proofs.Common.{refl, ◌∙◌}
use Rattle.std.specs.Prelude.{None}
use Rattle.qc_event.specs.Tables.{setting_of}
use Rattle.qc_event.specs.declared.event.Event.TheVariants as event
use Rattle.qc_desk.specs.Refusing.{against_nothing}
use Rattle.qc_desk.proofs.Calls.{after_look}
use Rattle.qc_desk.proofs.Seers.{shown_twice, grant_enters}
use Rattle.qc_desk.proofs.desk.Desk.append.Goals as goal

pub append-answer-requires-clause-allowed : goal.append-answer-requires-clause-allowed
append-answer-requires-clause-allowed g c =
    let setting = setting_of g.N.Store.table g.N.Store.base in
    let l = c.look.ensures in
    let k = c.look-2.ensures in
    let same = k.same.0 ∙ c.deref_mut-2.ensures.value in
    after_look setting (event.Granted c.args.copy c.args.grant.now) against_nothing _ _ c.look.new.self _ c.args.pass.now _ None l.same refl (c.deref_mut-3.ensures.value ∙ same) refl
    (λ _. grant_enters setting c.args.pass.now.number c.args.copy c.args.pass.now.seen _ c.args.grant.now l.history.legal (l.since c.requires.live) c.requires.free) refl

pub returns-clause-shown : goal.returns-clause-shown
returns-clause-shown g c =
    let k = c.look-2.ensures in
    let m = c.look-3.ensures in
    shown_twice c.args.seer.now c.look-2.new.pass _ _ _ _ _ k.seen k.since k.same m.seen m.since m.same
