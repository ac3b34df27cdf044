use Rattle.std.proofs.Common.{refl}
use Rattle.std.specs.Prelude.{None}
use Rattle.qc_event.specs.Tables.{setting_of}
use Rattle.qc_event.specs.declared.event.Event.TheVariants as event
use Rattle.qc_desk.specs.Refusing.{against_nothing}
use Rattle.qc_desk.proofs.Calls.{after_look}
use Rattle.qc_desk.proofs.OwnEntering.{gone_enters}
use Rattle.qc_desk.proofs.desk.Desk.gone.Goals as goal

pub append-requires-clause-allowed : goal.append-requires-clause-allowed
append-requires-clause-allowed g c =
    let setting = setting_of g.N.Store.table g.N.Store.base in
    let l = c.look.ensures in
    let s = l.since c.requires.client.0 in
    let legal = l.history.legal in
    after_look setting (event.Gone c.args.access.now c.args.why) against_nothing _ _ c.look.new.self _ c.args.pass.now _ None l.same refl c.deref_mut-2.ensures.value refl
    (λ living. gone_enters setting c.args.pass.now.number c.args.pass.now.seen _ c.args.access.now c.args.why legal s c.requires.own c.requires.may) refl
