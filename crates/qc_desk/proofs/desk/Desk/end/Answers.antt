use Rattle.std.proofs.Common.{arith}
use Rattle.qc_event.specs.Tables.{setting_of}
use Rattle.qc_event.specs.declared.event.Event.TheVariants as event
use Rattle.qc_event.specs.declared.event.How.TheVariants.{Commit}
use Rattle.qc_desk.specs.Refusing.{against_commit}
use Rattle.qc_desk.proofs.Calls.{client, after_look}
use Rattle.qc_desk.proofs.OwnEntering.{commit_enters, commit_room}
use Rattle.qc_desk.proofs.desk.Desk.end.Goals as goal

pub against_commit-no-requires-clause-below_a_top : goal.against_commit-no-requires-clause-below_a_top
against_commit-no-requires-clause-below_a_top g c =
    let setting = setting_of g.N.Store.table g.N.Store.base in
    let l = c.look.ensures in
    let s = l.since c.requires.client.0 in
    let legal = l.history.legal in
    (commit_room setting c.args.pass.now.number c.args.pass.now.seen _ c.args.name.now c.args.answer.now legal s c.requires.may).below_a_top

pub against_commit-no-requires-clause-room : goal.against_commit-no-requires-clause-room
against_commit-no-requires-clause-room g c =
    let setting = setting_of g.N.Store.table g.N.Store.base in
    let l = c.look.ensures in
    let s = l.since c.requires.client.0 in
    let legal = l.history.legal in
    let room = (commit_room setting c.args.pass.now.number c.args.pass.now.seen _ c.args.name.now c.args.answer.now legal s c.requires.may).room in
    omega (arith, room)

pub enter-requires-clause-allowed : goal.enter-requires-clause-allowed
enter-requires-clause-allowed g c none =
    let setting = setting_of g.N.Store.table g.N.Store.base in
    let l = c.look.ensures in
    let s = l.since c.requires.client.0 in
    let legal = l.history.legal in
    after_look setting (event.End c.args.name.now (Commit c.args.answer.now)) (against_commit c.args.name.now) _ _ _ _ c.args.pass.now _ c.against_commit-no.result l.same c.deref.ensures c.deref_mut-2.ensures.value c.against_commit-no.ensures
    (λ living. commit_enters setting c.args.pass.now.number c.args.pass.now.seen _ c.args.name.now c.args.answer.now legal s (client c.args.pass.now c.requires.client) c.requires.may living) none
