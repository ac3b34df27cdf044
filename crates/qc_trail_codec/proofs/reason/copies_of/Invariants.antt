use Rattle.std.proofs.Common.{◌≡◌, ◌-◌, ◌++◌, false, length, take, drop}
use Rattle.std.specs.Prelude.{replicate}
use Rattle.qc_trail_codec.specs.Reasons as reasons
use Rattle.qc_trail_codec.proofs.reason.copies_of.Given as goal

abbrev pub invariant-loop-copy : goal.invariant-loop-copy
invariant-loop-copy l = record {
  same : take l.copy l.copies ++ reasons.marks_of (16 - l.copy) l.rest ≡ reasons.marks_of 16 l.number;
  none : drop l.copy l.copies ≡ replicate (16 - l.copy) false;
  long : length l.copies ≡ 16;
}
