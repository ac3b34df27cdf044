-- What is left is exact, begins with the same bytes, and did what the first calls did.
use Rattle.std.proofs.Common.{◌≡◌, ◌≤◌, length, take}
use Rattle.qc_disk.specs.Kept.{first_of, acts_of, past_kept, IsExact}
use Rattle.qc_disk.proofs.tape.rewind.Given as goal

abbrev pub invariant-loop-left : goal.invariant-loop-left
invariant-loop-left l = record {
  within : l.count ≤ length l.left.calls.now;
  exact : IsExact (past_kept l.left) l.bytes.items;
  first : first_of (past_kept l.left) l.bytes.items ≡ first_of (past_kept l.past) l.fn.bytes.items;
  acts : acts_of (past_kept l.left) l.bytes.items ≡ take (length l.left.calls.now) (acts_of (past_kept l.past) l.fn.bytes.items);
}

abbrev pub decreases-loop-left : goal.decreases-loop-left
decreases-loop-left l = length l.left.calls.now
