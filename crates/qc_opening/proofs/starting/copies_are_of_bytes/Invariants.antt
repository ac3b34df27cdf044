-- The copies so far are of bytes.
use Rattle.std.proofs.Common.{take}
use Rattle.std.specs.Prelude.{All}
use Rattle.qc_site.specs.Mounted.{records_of}
use Rattle.qc_site.specs.Image.{AreBytes}
use Rattle.qc_opening.proofs.starting.copies_are_of_bytes.Given as goal

abbrev pub invariant-loop-copy : goal.invariant-loop-copy
invariant-loop-copy g l = All (λ pair. AreBytes (records_of pair.copy)) (take l.copy-index l.copies)
