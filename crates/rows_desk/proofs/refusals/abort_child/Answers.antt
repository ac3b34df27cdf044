use Rattle.qc_event.specs.Tables.{setting_of}
use Rattle.qc_event.specs.declared.event.Cause.TheVariants as cause
use Rattle.qc_event.specs.declared.event.Event.TheVariants as event
use Rattle.qc_event.specs.declared.event.How.TheVariants.{Abort}
use Rattle.qc_desk.specs.Refusing.{against_abort}
use Rattle.qc_desk.proofs.AskedTops.{may_ask_abort}
use Rattle.rows_desk.proofs.Calls.{either_way, still_users}
use Rattle.rows_desk.proofs.refusals.abort_child.Goals as goal

pub abort-requires-clause-licensed : goal.abort-requires-clause-licensed
abort-requires-clause-licensed g c = may_ask_abort (setting_of g.N.Store.table g.N.Store.base) c.args.pass.now.seen c.args.pass.now.number c.args.family.now.child c.requires.users.1

pub returns-clause-client : goal.returns-clause-client
returns-clause-client g c =
    let child = c.args.family.now.child in
    (either_way c.abort.result (against_abort child) (event.End child (Abort (cause.Asked child))) c.args.pass.now c.abort.new.pass c.abort.ensures.ok c.abort.ensures.err c.requires.client).0

pub returns-clause-users : goal.returns-clause-users
returns-clause-users g c =
    let child = c.args.family.now.child in
    still_users c.args.pass.now.seen c.abort.new.pass.seen c.args.family.now.top c.args.family.now.child
    (either_way c.abort.result (against_abort child) (event.End child (Abort (cause.Asked child))) c.args.pass.now c.abort.new.pass c.abort.ensures.ok c.abort.ensures.err c.requires.client).1 c.requires.users
