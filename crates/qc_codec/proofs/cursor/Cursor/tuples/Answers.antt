use Rattle.std.proofs.Common.{◌+◌, ◌-◌, List, ap, ◌∙◌}
use Rattle.std.proofs.lemmas.Result.{err_from_is_err_and}
use Rattle.qc_config.specs.declared.tuple.Tuple.{Tuple}
use Rattle.qc_codec.specs.Form.{times_taken}
use Rattle.qc_codec.specs.Fields as field
use Rattle.qc_codec.specs.Fields.{layout}
use Rattle.qc_codec.specs.Lists.{continued}
use Rattle.qc_codec.proofs.Loops.{goes_on, refused}
use Rattle.qc_codec.proofs.cursor.Cursor.tuples.Goals as goal

pub returns-in_err-tuple : goal.returns-in_err-tuple
returns-in_err-tuple c =
    let p = err_from_is_err_and c.from_residual.result c.from_residual.ensures.1 in
    rw (p.1, p.2)
    (refused (field.tuple (layout c.args.copies c.args.format)) c.loop.tuples.items c.args.count c.loop.counter c.loop.self.rest.now _ c.in_err-tuple.field-0.0 c.loop-test.true c.in_err-tuple.ensures.taken c.loop.invariant)

pub loop-preserved : goal.loop-preserved
loop-preserved c =
    ap (λ (xs : List Tuple). continued xs (times_taken (c.args.count - (c.loop.counter + 1)) (field.tuple (layout c.args.copies c.args.format)) c.tuple.new.self.rest.now)) c.in_ok-push.ensures.items
    ∙ goes_on (field.tuple (layout c.args.copies c.args.format)) c.loop.tuples.items c.args.count c.loop.counter c.loop.self.rest.now c.tuple.new.self.rest.now c.in_ok-tuple.tuple _ c.loop-test.true c.in_ok-tuple.ensures.taken c.loop.invariant
