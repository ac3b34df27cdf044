use Rattle.std.proofs.Common.{arith}
use Rattle.qc_event.specs.Tables.{setting_of}
use Rattle.rows_request.proofs.Asking.{stands_below, may_request, is_request}
use Rattle.rows_request.proofs.OneCopy.{over_is}
use Rattle.qc_desk.proofs.AskedTops.{may_be_ready}
use Rattle.rows_request.proofs.one_request.Goals as goal

pub start-requires-2-clause-stands : goal.start-requires-2-clause-stands
start-requires-2-clause-stands g c =
    let s = setting_of g.N.Store.table g.N.Store.base in
    let one = (may_be_ready s c.args.desk.now.epoch 0 0 c.args.pass.now c.start_top.new.pass c.in_ok-top.top c.in_ok-top.ensures.ok c.known.ensures.legal).0 in
    stands_below s (λ i. setting_of (c.requires.over.0 i) (c.requires.over.1 i)) c.in_ok-top.top c.in_ok-manager.manager c.start_top.new.pass c.start.new.pass c.in_ok-manager.ensures.ok c.known-2.ensures.legal (omega (arith, one))

pub ask-requires-clause-own : goal.ask-requires-clause-own
ask-requires-clause-own g c =
    may_request (setting_of g.N.Store.table g.N.Store.base) (over_is g.N.Store.table g.N.Store.base c.requires.over.0 c.requires.over.1) c.args.desk.now.epoch c.in_ok-top.top c.in_ok-manager.manager c.in_ok-access.access
    c.args.pass.now c.start_top.new.pass c.start.new.pass c.start-2.new.pass c.in_ok-top.ensures.ok c.in_ok-manager.ensures.ok c.in_ok-access.ensures.ok c.known.ensures.legal c.known-2.ensures.legal c.known-3.ensures.legal c.requires.client

pub returns-clause-older : goal.returns-clause-older
returns-clause-older g c =
    (is_request (setting_of g.N.Store.table g.N.Store.base) c.args.desk.now.epoch c.in_ok-top.top c.in_ok-manager.manager c.in_ok-access.access c.args.pass.now c.start_top.new.pass c.start.new.pass c.start-2.new.pass c.ask.new.pass
    c.in_ok-top.ensures.ok c.in_ok-manager.ensures.ok c.in_ok-access.ensures.ok c.in_ok-ask.ensures.ok c.known.ensures.legal
    (may_request (setting_of g.N.Store.table g.N.Store.base) (over_is g.N.Store.table g.N.Store.base c.requires.over.0 c.requires.over.1) c.args.desk.now.epoch c.in_ok-top.top c.in_ok-manager.manager c.in_ok-access.access
    c.args.pass.now c.start_top.new.pass c.start.new.pass c.start-2.new.pass c.in_ok-top.ensures.ok c.in_ok-manager.ensures.ok c.in_ok-access.ensures.ok c.known.ensures.legal c.known-2.ensures.legal c.known-3.ensures.legal c.requires.client)
    c.known-4.ensures.legal).1

pub returns-clause-asked : goal.returns-clause-asked
returns-clause-asked g c =
    (is_request (setting_of g.N.Store.table g.N.Store.base) c.args.desk.now.epoch c.in_ok-top.top c.in_ok-manager.manager c.in_ok-access.access c.args.pass.now c.start_top.new.pass c.start.new.pass c.start-2.new.pass c.ask.new.pass
    c.in_ok-top.ensures.ok c.in_ok-manager.ensures.ok c.in_ok-access.ensures.ok c.in_ok-ask.ensures.ok c.known.ensures.legal
    (may_request (setting_of g.N.Store.table g.N.Store.base) (over_is g.N.Store.table g.N.Store.base c.requires.over.0 c.requires.over.1) c.args.desk.now.epoch c.in_ok-top.top c.in_ok-manager.manager c.in_ok-access.access
    c.args.pass.now c.start_top.new.pass c.start.new.pass c.start-2.new.pass c.in_ok-top.ensures.ok c.in_ok-manager.ensures.ok c.in_ok-access.ensures.ok c.known.ensures.legal c.known-2.ensures.legal c.known-3.ensures.legal c.requires.client)
    c.known-4.ensures.legal).0
