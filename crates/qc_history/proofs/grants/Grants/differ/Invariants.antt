use Rattle.std.proofs.Common.{◌≡◌, take, reverse}
use Rattle.qc_event.specs.History.{grants}
use Rattle.qc_history.proofs.grants.Grants.differ.Given as goal

abbrev pub invariant-loop-index : goal.invariant-loop-index
invariant-loop-index l = take l.index l.given ≡ take l.index (grants (reverse l.entries) l.copy)
