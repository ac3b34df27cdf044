use Rattle.std.proofs.Common.{◌≡◌, ℕ, ◌+◌, ◌-◌, length}
use Rattle.qc_audit.specs.Walks.{listed}
use Rattle.qc_audit.proofs.walks.reach.Given as goal

abbrev pub invariant-loop-alloc : goal.invariant-loop-alloc
invariant-loop-alloc l = (i : ℕ) → listed l.lists.items i ≡ listed l.fn.lists.items i

abbrev pub decreases-loop-alloc : goal.decreases-loop-alloc
decreases-loop-alloc l = l.at + 1 - length l.lists.items
