use Rattle.std.proofs.Common.{◌+◌, ◌-◌, List, ap, ◌∙◌}
use Rattle.std.proofs.lemmas.Result.{err_from_is_err_and}
use Rattle.qc_event.specs.declared.table.Row.{Row}
use Rattle.qc_codec.specs.Form.{times_taken}
use Rattle.qc_codec.specs.Fields.{layout}
use Rattle.qc_codec.specs.Lists.{continued}
use Rattle.qc_codec.specs.Bodies as body
use Rattle.qc_codec.proofs.Loops.{goes_on, refused}
use Rattle.qc_codec.proofs.cursor.Cursor.rows.Goals as goal

pub returns-in_err-row : goal.returns-in_err-row
returns-in_err-row c =
    let p = err_from_is_err_and c.from_residual.result c.from_residual.ensures.1 in
    rw (p.1, p.2)
    (refused (body.row (layout c.args.copies c.args.format)) c.loop.rows.items c.args.count c.loop.counter c.loop.self.rest.now _ c.in_err-row.field-0.0 c.loop-test.true c.in_err-row.ensures c.loop.invariant)

pub loop-preserved : goal.loop-preserved
loop-preserved c =
    ap (λ (xs : List Row). continued xs (times_taken (c.args.count - (c.loop.counter + 1)) (body.row (layout c.args.copies c.args.format)) c.row.new.self.rest.now)) c.in_ok-push.ensures.items
    ∙ goes_on (body.row (layout c.args.copies c.args.format)) c.loop.rows.items c.args.count c.loop.counter c.loop.self.rest.now c.row.new.self.rest.now c.in_ok-row.row _ c.loop-test.true c.in_ok-row.ensures c.loop.invariant
