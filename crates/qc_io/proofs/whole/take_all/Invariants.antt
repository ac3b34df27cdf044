-- What holds after each piece, and that fewer bytes are still to come.
use Rattle.std.proofs.Common.{◌≤◌, ◌+◌, ◌-◌, length}
use Rattle.qc_io.specs.Io.{Gave}
use Rattle.qc_io.proofs.whole.take_all.Given as goal

-- the bytes so far are those that came first
abbrev pub invariant-loop-bytes : goal.invariant-loop-bytes
invariant-loop-bytes g l = record {
  within : length l.bytes.items ≤ l.limit + 1;
  bytes : Gave (g.S.Source.view l.fn.source).left (g.S.Source.view l.source).left l.bytes.items;
  later : (g.S.Source.view l.fn.source).faults ≤ (g.S.Source.view l.source).faults;
}

abbrev pub decreases-loop-bytes : goal.decreases-loop-bytes
decreases-loop-bytes g l = l.limit + 1 - length l.bytes.items
