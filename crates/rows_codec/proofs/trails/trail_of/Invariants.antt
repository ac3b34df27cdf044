use Rattle.std.proofs.Common.{◌≡◌, take}
use Rattle.rows_codec.proofs.trails.trail_of.Given as goal

abbrev pub invariant-loop-entry : goal.invariant-loop-entry
invariant-loop-entry l = l.trail ≡ take l.entry-index l.entries
