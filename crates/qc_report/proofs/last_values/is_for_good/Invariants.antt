use Rattle.std.proofs.Common.{◌≡◌, ◌<◌, ℕ, true, reverse, take}
use Rattle.qc_event.specs.Dead.{is_committed, outcome}
use Rattle.qc_report.proofs.last_values.is_for_good.Given as goal

-- each shorter ancestor but the root is committed
abbrev pub invariant-loop-len : goal.invariant-loop-len
invariant-loop-len l = (j : ℕ) → 0 < j → j < l.len → is_committed (outcome (reverse l.history) (take j l.access)) ≡ true
