-- The disks, and behind them the spares that are left from the last to the first, are those in the row.
use Rattle.std.proofs.Common.{◌≡◌, ◌≤◌, ◌+◌, ◌++◌, length, reverse}
use Rattle.std.specs.Vec.{vec_capacity}
use Rattle.qc_opening.proofs.waiting.Waiting.into_disks.Given as goal

abbrev pub invariant-loop-spare : goal.invariant-loop-spare
invariant-loop-spare g l = record {
  row : l.disks.items ++ reverse l.spares.items ≡ l.initial.disks.items ++ reverse l.initial.spares.items;
  room : length l.disks.items + length l.spares.items ≤ vec_capacity l.disks;
}

abbrev pub decreases-loop-spare : goal.decreases-loop-spare
decreases-loop-spare g l = goal.left-loop-spare g l
