use Rattle.std.proofs.Common.{◌≡◌, reverse, take}
use Rattle.qc_event.specs.Dead.{ancestors}
use Rattle.qc_serial.specs.Walk as words
use Rattle.qc_serial.proofs.order.serialise.Given as goal

-- what was written so far is the visits of the ancestors so far
abbrev pub invariant-loop-k : goal.invariant-loop-k
invariant-loop-k l = l.out.items ≡ words.visits (reverse l.h) (take l.k (ancestors l.t))
