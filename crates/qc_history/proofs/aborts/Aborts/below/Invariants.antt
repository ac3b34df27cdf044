use Rattle.std.proofs.Common.{reverse}
use Rattle.qc_history.proofs.AbortsBelow.{IsMidway}
use Rattle.qc_history.proofs.aborts.Aborts.below.Given as goal

abbrev pub invariant-loop-next : goal.invariant-loop-next
invariant-loop-next l = IsMidway (reverse l.entries) l.top l.next l.found.items

abbrev pub decreases-loop-next : goal.decreases-loop-next
decreases-loop-next l = l.next
