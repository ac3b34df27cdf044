-- They are the same so far.
use Rattle.std.proofs.Common.{◌≡◌, take}
use Rattle.qc_site.proofs.compare.first_apart.Given as goal

abbrev pub invariant-loop-index : goal.invariant-loop-index
invariant-loop-index l = take l.index l.grants ≡ take l.index l.given
