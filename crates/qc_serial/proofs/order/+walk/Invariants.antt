use Rattle.std.proofs.Common.{◌≡◌, ◌+◌, ◌*◌, ◌++◌, reverse, take, length}
use Rattle.qc_serial.specs.Walk as words
use Rattle.qc_serial.proofs.order.+walk.Given as goal

abbrev pub decreases-ended : goal.decreases-ended
decreases-ended l = 2 * length l.past.now + 1

abbrev pub decreases-walk : goal.decreases-walk
decreases-walk l = 2 * length l.h.now

-- what was written so far is the walk of the entries so far
abbrev pub invariant-walk-loop-i : goal.invariant-walk-loop-i
invariant-walk-loop-i l = l.out.items ≡ l.initial.out.items ++ words.walk (reverse (take l.i l.h)) l.n
