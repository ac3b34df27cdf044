use Rattle.qc_event.specs.Tables.{setting_of}
use Rattle.qc_event.specs.declared.event.Event.TheVariants as event
use Rattle.qc_desk.specs.Refusing.{against_ready}
use Rattle.qc_desk.proofs.Calls.{client, after_look}
use Rattle.qc_desk.proofs.Entering.{ready_allowed}
use Rattle.qc_desk.proofs.desk.Desk.ready.Goals as goal

pub enter-requires-clause-allowed : goal.enter-requires-clause-allowed
enter-requires-clause-allowed g c none =
    let setting = setting_of g.N.Store.table g.N.Store.base in
    let l = c.look.ensures in
    let s = l.since c.requires.client.0 in
    after_look setting (event.Ready c.args.top.now) (against_ready c.args.top.now) _ _ _ _ c.args.pass.now _ c.against_ready.result l.same c.deref.ensures c.deref_mut-2.ensures.value c.against_ready.ensures
    (ready_allowed setting c.args.pass.now.number c.args.pass.now.seen _ c.args.top.now (s.0, s.1) (client c.args.pass.now c.requires.client) c.requires.started.0 c.requires.started.1) c.in_default.is
