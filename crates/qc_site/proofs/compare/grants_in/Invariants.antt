-- The bodies so far are the grants so far.
use Rattle.std.proofs.Common.{take}
use Rattle.qc_journal.specs.Image.{bodies_of}
use Rattle.qc_site.specs.Back.{AreGrants}
use Rattle.qc_site.proofs.compare.grants_in.Given as goal

abbrev pub invariant-loop-index : goal.invariant-loop-index
invariant-loop-index l = AreGrants l.copies l.grants.items (bodies_of (take l.index l.bodies))
