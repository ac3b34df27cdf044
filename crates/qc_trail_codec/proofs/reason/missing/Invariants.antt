use Rattle.std.proofs.Common.{◌≡◌, ◌-◌, length, take}
use Rattle.qc_codec.specs.Form.{times_taken}
use Rattle.qc_codec.specs.Lists.{continued}
use Rattle.qc_trail_codec.specs.Reasons as reasons
use Rattle.qc_trail_codec.proofs.reason.missing.Given as goal

abbrev pub invariant-loop-copy : goal.invariant-loop-copy
invariant-loop-copy l = record {
  same : continued (take l.copy l.missing) (times_taken (16 - l.copy) reasons.reason l.cursor.rest.now) ≡ times_taken 16 reasons.reason l.fn.cursor.rest.now;
  long : length l.missing ≡ 16;
}
