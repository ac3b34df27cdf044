use Rattle.std.proofs.Common.{◌≡◌, ℕ, ◌+◌, ◌-◌, length}
use Rattle.qc_history.specs.Grants.{listed}
use Rattle.qc_history.proofs.grants.reach_copy.Given as goal

abbrev pub invariant-loop-alloc : goal.invariant-loop-alloc
invariant-loop-alloc l = (c : ℕ) → listed l.copies.items c ≡ listed l.fn.copies.items c

abbrev pub decreases-loop-alloc : goal.decreases-loop-alloc
decreases-loop-alloc l = l.copy + 1 - length l.copies.items
