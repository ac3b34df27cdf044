use Rattle.qc_serial.proofs.Unfound.{IsMidway}
use Rattle.qc_serial.proofs.values.first_unfound.Given as goal

abbrev pub invariant-loop-i : goal.invariant-loop-i
invariant-loop-i l = IsMidway l.fn.start l.events l.i l.values.items
