use Rattle.std.proofs.Common.{◌+◌, ◌-◌, List, ap, ◌∙◌}
use Rattle.qc_event.specs.declared.event.Entry.{Entry}
use Rattle.qc_codec.specs.Form.{times_taken}
use Rattle.qc_codec.specs.Fields.{layout}
use Rattle.qc_codec.specs.Lists.{continued}
use Rattle.qc_codec.proofs.Loops.{goes_on, refused}
use Rattle.qc_trail_codec.specs.Events as events
use Rattle.qc_trail_codec.proofs.trail.entries.Goals as goal

pub returns-in-Err : goal.returns-in-Err
returns-in-Err c = refused (events.entry (layout c.args.copies c.args.format)) c.loop.entries.items c.args.count c.loop.counter c.loop.cursor.rest.now _ c.in-Err.fault c.loop-test.true c.in-Err.ensures c.loop.invariant

pub loop-preserved : goal.loop-preserved
loop-preserved c =
    ap (λ (xs : List Entry). continued xs (times_taken (c.args.count - (c.loop.counter + 1)) (events.entry (layout c.args.copies c.args.format)) c.entry.new.cursor.rest.now)) c.in_ok-append-in-Ok.ensures.ok
    ∙ goes_on (events.entry (layout c.args.copies c.args.format)) c.loop.entries.items c.args.count c.loop.counter c.loop.cursor.rest.now c.entry.new.cursor.rest.now c.in-Ok.entry _ c.loop-test.true c.in-Ok.ensures c.loop.invariant
