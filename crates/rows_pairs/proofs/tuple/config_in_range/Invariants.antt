use Rattle.std.proofs.Common.{ℕ, ◌<◌}
use Rattle.qc_config.specs.Config.{votes_of}
use Rattle.rows_pairs.proofs.tuple.config_in_range.Given as goal

-- each vote that was read is in range
abbrev pub invariant-loop-copy : goal.invariant-loop-copy
invariant-loop-copy l = (k : ℕ) → k < l.copy → votes_of l.config k < 256
