use Rattle.std.proofs.Common.{◌≡◌, ◌-◌}
use Rattle.qc_codec.specs.Form.{times_taken}
use Rattle.qc_codec.specs.Bodies as body
use Rattle.qc_codec.specs.Lists.{continued}
use Rattle.qc_codec.proofs.cursor.Cursor.names.Given as goal

abbrev pub invariant-loop : goal.invariant-loop
invariant-loop l = continued l.names.items (times_taken (l.count - l.counter) (body.below l.top) l.self.rest.now) ≡ times_taken l.count (body.below l.top) l.fn.self.rest.now
