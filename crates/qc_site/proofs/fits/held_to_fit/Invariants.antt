use Rattle.std.proofs.Common.{take}
use Rattle.std.specs.List.{All}
use Rattle.qc_site.proofs.HeldFits.{IsTupleInRange}
use Rattle.qc_site.proofs.fits.held_to_fit.Given as goal

-- each tuple that was read is in range
abbrev pub invariant-loop-tuple : goal.invariant-loop-tuple
invariant-loop-tuple g l = All IsTupleInRange (take l.tuple-index l.held)
