-- The pairs that are out, and those of the copies from the last on, are the same.
use Rattle.std.proofs.Common.{◌≡◌, ◌+◌, ◌≤◌, ◌++◌, length, map, vec_len}
use Rattle.std.specs.Prelude.{reverse}
use Rattle.qc_opening.specs.Boxes.{unboxed_pairs}
use Rattle.qc_opening.specs.Mounted.{copy_disks}
use Rattle.qc_system.specs.Pairs.{pairs_in}
use Rattle.qc_opening.proofs.refusing.put_copies.Given as goal

abbrev pub invariant-loop-last : goal.invariant-loop-last
invariant-loop-last g l = record {
  pairs : pairs_in l.returns ++ unboxed_pairs (reverse (map copy_disks l.copies.items)) ≡ pairs_in l.initial.returns ++ unboxed_pairs (reverse (map copy_disks l.initial.copies.items));
  few : length (pairs_in l.returns) + length l.copies.items ≤ 17;
}

abbrev pub decreases-loop-last : goal.decreases-loop-last
decreases-loop-last g l = vec_len l.copies
