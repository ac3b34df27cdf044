use Rattle.std.proofs.Common.{arith}
use Rattle.qc_event.specs.Tables.{setting_of}
use Rattle.qc_desk.specs.Refusing.{against_child}
use Rattle.qc_desk.proofs.AskedTops.{entered_as_later}
use Rattle.rows_desk.proofs.Children.{IsChild, child_begun, stands_below, still_top}
use Rattle.rows_desk.proofs.looks.start_child.Goals as goal

pub start-requires-clause-stands : goal.start-requires-clause-stands
start-requires-clause-stands g c = stands_below (setting_of g.N.Store.table g.N.Store.base) c.args.pass.now.seen c.args.pass.now.number c.args.top.now 3 1 c.requires.top

pub returns-clause-top : goal.returns-clause-top
returns-clause-top g c =
    let top = c.args.top.now in
    still_top c.args.pass.now.seen c.start.new.pass.seen top
    (entered_as_later (against_child top) (IsChild top 3 1 c.in_ok-child.child) c.args.pass.now c.start.new.pass c.in_ok-child.ensures.ok) c.requires.top

pub returns-clause-child : goal.returns-clause-child
returns-clause-child g c =
    child_begun (setting_of g.N.Store.table g.N.Store.base) c.args.top.now 3 1 c.args.pass.now c.start.new.pass c.in_ok-child.child (omega (arith, c.requires.top.0)) c.in_ok-child.ensures.ok c.known.ensures.legal
