use Rattle.std.proofs.Common.{◌≡◌, ◌-◌}
use Rattle.qc_codec.specs.Fields as field
use Rattle.qc_codec.specs.Fields.{layout}
use Rattle.qc_codec.specs.Form.{times_taken}
use Rattle.qc_codec.specs.Lists.{continued}
use Rattle.qc_trail_codec.proofs.base.row.Given as goal

abbrev pub invariant-loop : goal.invariant-loop
invariant-loop l = continued l.row.items (times_taken (l.records - l.counter) (field.tuple (layout l.copies l.format)) l.cursor.rest.now) ≡ times_taken l.records (field.tuple (layout l.copies l.format)) l.fn.cursor.rest.now
