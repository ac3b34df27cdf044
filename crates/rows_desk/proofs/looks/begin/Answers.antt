use Rattle.std.proofs.Common.{length, ap}
use Rattle.qc_event.specs.Tables.{setting_of}
use Rattle.qc_desk.proofs.AskedTops.{top_begun}
use Rattle.rows_desk.proofs.looks.begin.Goals as goal

pub returns-clause-top : goal.returns-clause-top
returns-clause-top g c =
    let entered = c.in_ok-top.ensures.ok in
    (ap length entered.2.0, top_begun (setting_of g.N.Store.table g.N.Store.base) _ 3 0 c.args.pass.now c.start_top.new.pass c.in_ok-top.top entered c.known.ensures.legal)
