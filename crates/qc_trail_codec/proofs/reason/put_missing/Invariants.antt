use Rattle.std.proofs.Common.{◌≡◌, ◌++◌, take}
use Rattle.std.specs.Prelude.{flat_map}
use Rattle.qc_trail_codec.specs.Reasons as reasons
use Rattle.qc_trail_codec.proofs.reason.put_missing.Given as goal

abbrev pub invariant-loop-reason : goal.invariant-loop-reason
invariant-loop-reason l = l.out.items ≡ l.fn.out.items ++ flat_map reasons.reason.spell (take l.reason-index l.missing)
