-- The bodies so far are of bytes.
use Rattle.std.proofs.Common.{take}
use Rattle.qc_journal.specs.Image.{bodies_of}
use Rattle.qc_site.specs.Image.{AreBytes}
use Rattle.qc_site.proofs.bytes.are_bytes.Given as goal

abbrev pub invariant-loop-body : goal.invariant-loop-body
invariant-loop-body l = AreBytes (bodies_of (take l.body-index l.bodies))
