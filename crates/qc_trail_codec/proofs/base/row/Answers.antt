use Rattle.std.proofs.Common.{◌+◌, ◌-◌, List, ap, ◌∙◌}
use Rattle.qc_config.specs.declared.tuple.Tuple.{Tuple}
use Rattle.qc_codec.specs.Form.{times_taken}
use Rattle.qc_codec.specs.Fields as field
use Rattle.qc_codec.specs.Fields.{layout}
use Rattle.qc_codec.specs.Lists.{continued}
use Rattle.qc_codec.proofs.Loops.{goes_on}
use Rattle.qc_trail_codec.proofs.base.row.Goals as goal

pub loop-preserved : goal.loop-preserved
loop-preserved c =
    ap (λ (xs : List Tuple). continued xs (times_taken (c.args.records - (c.loop.counter + 1)) (field.tuple (layout c.args.copies c.args.format)) c.tuple.new.self.rest.now)) c.in_ok-push.ensures.items
    ∙ goes_on (field.tuple (layout c.args.copies c.args.format)) c.loop.row.items c.args.records c.loop.counter c.loop.cursor.rest.now c.tuple.new.self.rest.now c.in_ok-tuple.tuple _ c.loop-test.true c.in_ok-tuple.ensures.taken c.loop.invariant
