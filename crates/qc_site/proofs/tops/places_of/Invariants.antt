-- The places of the tops so far.
use Rattle.std.proofs.Common.{take}
use Rattle.qc_site.specs.Places.{ArePlaces}
use Rattle.qc_site.proofs.tops.places_of.Given as goal

abbrev pub invariant-loop-index : goal.invariant-loop-index
invariant-loop-index l = ArePlaces l.places (take l.index l.tops)
