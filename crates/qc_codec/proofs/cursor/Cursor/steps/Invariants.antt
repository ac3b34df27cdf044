use Rattle.std.proofs.Common.{◌≡◌, ◌+◌, ◌-◌, length}
use Rattle.qc_codec.specs.Form.{times_taken}
use Rattle.qc_codec.specs.Lists.{continued}
use Rattle.qc_codec.specs.Fields as field
use Rattle.qc_codec.proofs.cursor.Cursor.steps.Given as goal

abbrev pub invariant-loop : goal.invariant-loop
invariant-loop l = record {
  same : continued l.name (times_taken (l.more - l.counter) field.some_number l.self.rest.now) ≡ continued l.first (times_taken l.more field.some_number l.fn.self.rest.now);
  long : length l.name ≡ length l.first + l.counter;
}
