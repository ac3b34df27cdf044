use Rattle.std.proofs.Common.{◌≡◌, take}
use Rattle.qc_trail.proofs.trail.Trail.to_vec.Given as goal

abbrev pub invariant-loop-at : goal.invariant-loop-at
invariant-loop-at l = l.entries.items ≡ take l.at l.self
