use Rattle.std.proofs.Common.{◌≡◌, take, reverse}
use Rattle.qc_event.specs.History.{grants}
use Rattle.qc_history.proofs.grants.Grants.of_copy.Given as goal

abbrev pub invariant-loop-place : goal.invariant-loop-place
invariant-loop-place l = l.given.items ≡ take l.place-index (grants (reverse l.entries) l.copy)
