use Rattle.std.proofs.Common.{◌≡◌, drop}
use Rattle.qc_trail_codec.specs.Reasons as reasons
use Rattle.qc_trail_codec.proofs.reason.number_of.Given as goal

abbrev pub invariant-loop-place : goal.invariant-loop-place
invariant-loop-place l = l.number ≡ reasons.number_of (drop l.place l.marks)
