use Rattle.std.proofs.Common.{◌≡◌, ◌-◌}
use Rattle.qc_codec.specs.Form.{times_taken}
use Rattle.qc_codec.specs.Fields.{layout}
use Rattle.qc_codec.specs.Bodies as body
use Rattle.qc_codec.specs.Lists.{continued}
use Rattle.qc_codec.proofs.cursor.Cursor.rows.Given as goal

abbrev pub invariant-loop : goal.invariant-loop
invariant-loop l = continued l.rows.items (times_taken (l.count - l.counter) (body.row (layout l.copies l.format)) l.self.rest.now) ≡ times_taken l.count (body.row (layout l.copies l.format)) l.fn.self.rest.now
