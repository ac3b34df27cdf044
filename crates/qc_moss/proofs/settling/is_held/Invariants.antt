use Rattle.std.proofs.Common.{◌≡◌, drop}
use Rattle.qc_moss.specs.Locks.{is_held}
use Rattle.qc_moss.proofs.settling.is_held.Given as goal

-- none so far is held there
abbrev pub invariant-loop-holder : goal.invariant-loop-holder
invariant-loop-holder l = is_held l.held l.at ≡ is_held (drop l.holder-index l.held) l.at
