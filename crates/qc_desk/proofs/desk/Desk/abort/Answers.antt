use Rattle.qc_event.specs.Tables.{setting_of}
use Rattle.qc_event.specs.declared.event.Event.TheVariants as event
use Rattle.qc_event.specs.declared.event.How.TheVariants.{Abort}
use Rattle.qc_desk.specs.Refusing.{against_abort}
use Rattle.qc_desk.proofs.Aborting.{abort_allowed}
use Rattle.qc_desk.proofs.Calls.{client, after_look}
use Rattle.qc_desk.proofs.desk.Desk.abort.Goals as goal

pub enter-requires-clause-allowed : goal.enter-requires-clause-allowed
enter-requires-clause-allowed g c none =
    let setting = setting_of g.N.Store.table g.N.Store.base in
    let l = c.look.ensures in
    let s = l.since c.requires.client.0 in
    let legal = l.history.legal in
    after_look setting (event.End c.args.name.now (Abort c.args.cause.now)) (against_abort c.args.name.now) _ _ _ _ c.args.pass.now _ c.against_abort-no.result l.same c.deref.ensures c.deref_mut-2.ensures.value c.against_abort-no.ensures
    (abort_allowed setting c.args.pass.now.number c.args.pass.now.seen _ c.args.name.now c.args.cause.now legal s (client c.args.pass.now c.requires.client) c.requires.licensed) none
