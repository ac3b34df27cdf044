use Rattle.qc_event.specs.Tables.{setting_of}
use Rattle.qc_desk.proofs.Consulting.{asked_later}
use Rattle.qc_desk.proofs.AskedTops.{entered_later}
use Rattle.rows_desk.proofs.Tops.{asked_itself}
use Rattle.rows_desk.proofs.scene.dead_request.Goals as goal

pub abort-requires-clause-licensed : goal.abort-requires-clause-licensed
abort-requires-clause-licensed g c =
    let past = c.one_request.new.pass in
    asked_itself (setting_of g.N.Store.table g.N.Store.base) past.seen c.args.pass.now.number past.number 0 0 c.in_ok-top.top c.in_ok-top.ensures.asked.begun

pub returns-clause-asked : goal.returns-clause-asked
returns-clause-asked g c =
    let r = c.in_ok-top.ensures.asked in
    (asked_later c.one_request.new.pass.seen c.abort.new.pass.seen c.in_ok-top.ask (entered_later _ _ c.one_request.new.pass c.abort.new.pass c.in_ok-abort.ensures.ok) r.asked, r.to_copy)
