use Rattle.std.proofs.Common.{◌≡◌, ◌-◌, length, map}
use Rattle.qc_codec.specs.Fields as field
use Rattle.qc_codec.specs.Fields.{layout}
use Rattle.qc_codec.specs.Form.{times, times_taken}
use Rattle.qc_codec.specs.Lists.{continued}
use Rattle.qc_trail_codec.proofs.base.rows.Given as goal

abbrev pub invariant-loop : goal.invariant-loop
invariant-loop l = record {
  same : continued (map (λ r. r.items) l.rows.items) (times_taken (l.copies - l.counter) (times l.records (field.tuple (layout l.copies l.format))) l.cursor.rest.now) ≡ times_taken l.copies (times l.records (field.tuple (layout l.copies l.format))) l.fn.cursor.rest.now;
  many : length l.rows.items ≡ l.counter;
}
