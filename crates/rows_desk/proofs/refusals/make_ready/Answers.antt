use Rattle.qc_event.specs.declared.event.Event.TheVariants as event
use Rattle.qc_event.specs.History.{start}
use Rattle.qc_event.specs.Standing.{IsUser}
use Rattle.qc_event.proofs.Lawful.{started_some}
use Rattle.qc_desk.specs.Refusing.{against_ready}
use Rattle.rows_desk.proofs.Calls.{either_way, still_users}
use Rattle.rows_desk.proofs.refusals.make_ready.Goals as goal

pub ready-requires-clause-started : goal.ready-requires-clause-started
ready-requires-clause-started g c =
    let is_top = c.requires.users.0 in
    (is_top.0, started_some (λ b. IsUser b.kind) (start c.args.pass.now.seen c.args.family.now.top) is_top.1)

pub returns-clause-client : goal.returns-clause-client
returns-clause-client g c =
    let top = c.args.family.now.top in
    (either_way c.ready.result (against_ready top) (event.Ready top) c.args.pass.now c.ready.new.pass c.ready.ensures.ok c.ready.ensures.err c.requires.client).0

pub returns-clause-users : goal.returns-clause-users
returns-clause-users g c =
    let top = c.args.family.now.top in
    still_users c.args.pass.now.seen c.ready.new.pass.seen top c.args.family.now.child
    (either_way c.ready.result (against_ready top) (event.Ready top) c.args.pass.now c.ready.new.pass c.ready.ensures.ok c.ready.ensures.err c.requires.client).1 c.requires.users
