use Rattle.qc_event.specs.Tables.{setting_of}
use Rattle.qc_desk.specs.Refusing.{against_nothing}
use Rattle.qc_desk.proofs.AskedTops.{IsTop, entered_as_later, on_ok, top_begun}
use Rattle.qc_desk.proofs.Seers.{older_trans}
use Rattle.rows_serve.proofs.client.set.Goals as goal

pub set_below-requires-clause-user : goal.set_below-requires-clause-user
set_below-requires-clause-user g c =
    top_begun (setting_of g.N.Store.table g.N.Store.base) c.args.desk.now.epoch 0 0 c.args.pass.now c.start_top.new.pass c.in_ok-top.top c.in_ok-top.ensures.ok c.known.ensures.legal

pub returns-clause-older : goal.returns-clause-older
returns-clause-older g c =
    on_ok c.set_below.result _ _
    (older_trans c.args.pass.now.seen c.start_top.new.pass.seen c.set_below.new.pass.seen
    (entered_as_later against_nothing (IsTop c.args.desk.now.epoch 0 0 c.in_ok-top.top) c.args.pass.now c.start_top.new.pass c.in_ok-top.ensures.ok))
    c.set_below.ensures.older
