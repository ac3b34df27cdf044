use Rattle.std.proofs.Common.{arith, ◌+◌, length}
use Rattle.std.proofs.lemmas.Bool.{le-leb}
use Rattle.qc_event.specs.declared.event.Kind.TheVariants as kind
use Rattle.qc_desk.proofs.AskedTops.{on_ok}
use Rattle.qc_desk.proofs.Seers.{older_trans}
use Rattle.qc_event.specs.Tables.{setting_of}
use Rattle.rows_serve.proofs.Children.{later}
use Rattle.qc_desk.proofs.Begun.{user_nonroot}
use Rattle.rows_serve.proofs.First.{child_stands, child_begun}
use Rattle.rows_serve.proofs.client.set_child.Goals as goal

pub start-requires-clause-stands : goal.start-requires-clause-stands
start-requires-clause-stands g c =
    let user = c.args.request.now.user in
    child_stands g.N.Store.table g.N.Store.base c.requires.over user c.args.pass.now c.requires.stands.begun (le-leb (length user + 1) 16 (omega (arith, c.requires.deep)))

pub set_below-requires-clause-user : goal.set_below-requires-clause-user
set_below-requires-clause-user g c =
    let user = c.args.request.now.user in
    child_begun g.N.Store.table g.N.Store.base c.requires.over user c.in_ok-child.child c.args.pass.now c.start.new.pass c.in_ok-child.ensures.ok c.known-2.ensures.legal
    (user_nonroot (setting_of g.N.Store.table g.N.Store.base) c.args.pass.now.seen user c.known.ensures.legal c.requires.stands.begun)

pub returns-clause-older : goal.returns-clause-older
returns-clause-older g c =
    on_ok c.set_below.result _ _
    (older_trans c.args.pass.now.seen c.start.new.pass.seen c.set_below.new.pass.seen
    (later c.args.request.now.user (kind.User 0 0) c.in_ok-child.child c.args.pass.now c.start.new.pass c.in_ok-child.ensures.ok))
    c.set_below.ensures.older
