use Rattle.std.proofs.Common.{refl, ◌∙◌, subst}
use Rattle.std.specs.Prelude.{None}
use Rattle.qc_event.specs.Tables.{setting_of}
use Rattle.qc_event.specs.declared.event.Event.TheVariants as event
use Rattle.qc_desk.specs.Entries.{IsOlder}
use Rattle.qc_desk.specs.Refusing.{against_nothing}
use Rattle.qc_desk.proofs.Calls.{after_look}
use Rattle.qc_desk.proofs.Seers.{shown_twice, unable_later}
use Rattle.qc_desk.proofs.desk.Desk.unable.Goals as goal

pub append-answer-requires-clause-allowed : goal.append-answer-requires-clause-allowed
append-answer-requires-clause-allowed g c =
    let setting = setting_of g.N.Store.table g.N.Store.base in
    let l = c.look.ensures in
    let k = c.look-2.ensures in
    let same = k.same.0 ∙ c.deref_mut-2.ensures.value in
    after_look setting (event.Unable c.args.name.now c.args.why) against_nothing _ _ c.look.new.self _ c.args.pass.now _ None l.same refl (c.deref_mut-3.ensures.value ∙ same) refl
    (λ _. unable_later c.args.seer.now.seen _ c.args.pass.now.number c.args.name.now c.args.why (subst (IsOlder c.args.seer.now.seen) (c.deref_mut-2.ensures.value ∙ l.same.0) k.seen) c.requires.may) refl

pub returns-clause-shown : goal.returns-clause-shown
returns-clause-shown g c =
    let k = c.look-2.ensures in
    let m = c.look-3.ensures in
    shown_twice c.args.seer.now c.look-2.new.pass _ _ _ _ _ k.seen k.since k.same m.seen m.since m.same
