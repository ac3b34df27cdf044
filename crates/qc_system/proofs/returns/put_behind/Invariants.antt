-- What was put, and what is left from the last on, are all.
use Rattle.std.proofs.Common.{◌≡◌, ◌+◌, ◌≤◌, ◌++◌, length, vec_len}
use Rattle.std.specs.Prelude.{reverse}
use Rattle.std.specs.Vec.{vec_capacity}
use Rattle.qc_system.proofs.returns.put_behind.Given as goal

abbrev pub invariant-loop-next : goal.invariant-loop-next
invariant-loop-next g l = record {
  items : l.all.items ++ reverse l.more.items ≡ l.initial.all.items ++ reverse l.initial.more.items;
  few : length l.all.items + length l.more.items ≤ vec_capacity l.all;
}

abbrev pub decreases-loop-next : goal.decreases-loop-next
decreases-loop-next g l = vec_len l.more
