use Rattle.qc_event.specs.Tables.{setting_of}
use Rattle.qc_event.specs.declared.event.Answer.TheVariants as answer
use Rattle.qc_event.specs.declared.event.Event.TheVariants as event
use Rattle.qc_event.specs.declared.event.How.TheVariants.{Commit}
use Rattle.qc_desk.specs.Refusing.{against_access}
use Rattle.qc_desk.proofs.Calls.{after_look}
use Rattle.qc_desk.proofs.OwnEntering.{reply_enters}
use Rattle.qc_desk.proofs.desk.Desk.take_reply.Goals as goal

pub enter-requires-clause-allowed : goal.enter-requires-clause-allowed
enter-requires-clause-allowed g c none =
    let setting = setting_of g.N.Store.table g.N.Store.base in
    let l = c.look.ensures in
    let s = l.since c.requires.client.0 in
    let legal = l.history.legal in
    after_look setting (event.End c.args.access.now (Commit (answer.Reply c.args.tuple.now))) (against_access c.args.access.now) _ _ _ _ c.args.pass.now _ c.against_access-no.result l.same c.deref.ensures c.deref_mut-2.ensures.value c.against_access-no.ensures
    (λ living. reply_enters setting c.args.pass.now.number c.args.pass.now.seen _ c.args.access.now c.args.tuple.now legal s c.requires.own c.requires.may living) none
