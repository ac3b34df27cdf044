-- The disks that wait, and those in their places from the last on, are all.
use Rattle.std.proofs.Common.{◌≡◌, ◌+◌, ◌++◌, length, vec_len}
use Rattle.std.specs.Prelude.{reverse}
use Rattle.std.specs.Vec.{vec_capacity}
use Rattle.qc_opening.specs.Boxes.{unboxed}
use Rattle.qc_opening.proofs.boxing.box_all.Given as goal

abbrev pub invariant-loop-last : goal.invariant-loop-last
invariant-loop-last g l = record {
  items : l.disks.items ++ reverse (unboxed l.boxed.items) ≡ l.initial.disks.items;
  many : length l.disks.items + length l.boxed.items ≡ length l.initial.disks.items;
  room : vec_capacity l.disks ≡ vec_capacity l.initial.disks;
  places : vec_capacity l.boxed ≡ length l.initial.disks.items;
}

abbrev pub decreases-loop-last : goal.decreases-loop-last
decreases-loop-last g l = vec_len l.disks
