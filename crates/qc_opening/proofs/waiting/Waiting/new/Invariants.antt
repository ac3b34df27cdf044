-- The disks, and behind them the spares from the last to the first, are those that were given.
use Rattle.std.proofs.Common.{◌≡◌, ◌≤◌, ◌++◌, length, reverse}
use Rattle.std.specs.Vec.{vec_capacity}
use Rattle.qc_opening.proofs.waiting.Waiting.new.Given as goal

abbrev pub invariant-loop-spares : goal.invariant-loop-spares
invariant-loop-spares g l = record {
  row : l.disks.items ++ reverse l.spares.items ≡ l.initial.disks.items;
  fewer : length l.spares.items ≤ length l.disks.items;
  room : vec_capacity l.disks ≡ vec_capacity l.initial.disks;
  room_behind : vec_capacity l.spares ≡ vec_capacity l.initial.spares;
}

abbrev pub decreases-loop-spares : goal.decreases-loop-spares
decreases-loop-spares g l = goal.left-loop-spares g l
