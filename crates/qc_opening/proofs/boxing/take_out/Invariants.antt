-- The disks that are out, and those in their places from the last on, are the same.
use Rattle.std.proofs.Common.{◌≡◌, ◌+◌, ◌≤◌, ◌++◌, length, vec_len}
use Rattle.std.specs.Prelude.{reverse}
use Rattle.std.specs.Vec.{vec_capacity}
use Rattle.qc_opening.specs.Boxes.{unboxed}
use Rattle.qc_opening.proofs.boxing.take_out.Given as goal

abbrev pub invariant-loop-last : goal.invariant-loop-last
invariant-loop-last g l = record {
  items : l.disks.items ++ reverse (unboxed l.boxed.items) ≡ l.initial.disks.items ++ reverse (unboxed l.initial.boxed.items);
  few : length l.disks.items + length l.boxed.items ≤ vec_capacity l.disks;
}

abbrev pub decreases-loop-last : goal.decreases-loop-last
decreases-loop-last g l = vec_len l.boxed
