use Rattle.std.proofs.Common.{◌≡◌, ◌-◌}
use Rattle.qc_codec.specs.Fields.{layout}
use Rattle.qc_codec.specs.Form.{times_taken}
use Rattle.qc_codec.specs.Lists.{continued}
use Rattle.qc_trail_codec.specs.Events as events
use Rattle.qc_trail_codec.proofs.trail.entries.Given as goal

abbrev pub invariant-loop : goal.invariant-loop
invariant-loop l = continued l.entries.items (times_taken (l.count - l.counter) (events.entry (layout l.copies l.format)) l.cursor.rest.now) ≡ times_taken l.count (events.entry (layout l.copies l.format)) l.fn.cursor.rest.now
