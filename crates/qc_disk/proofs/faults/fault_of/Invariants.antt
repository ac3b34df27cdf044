-- What the rest of the list says of a call is what the whole list says.
use Rattle.std.proofs.Common.{◌≡◌, length}
use Rattle.qc_disk.specs.Replay.{fault_at}
use Rattle.qc_disk.proofs.faults.fault_of.Given as goal

abbrev pub invariant-loop-rest : goal.invariant-loop-rest
invariant-loop-rest l = fault_at l.fails l.call ≡ fault_at l.rest l.call

abbrev pub decreases-loop-rest : goal.decreases-loop-rest
decreases-loop-rest l = length l.rest
