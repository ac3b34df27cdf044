use Rattle.std.proofs.Common.{◌≡◌, ℕ, ◌<◌}
use Rattle.qc_config.specs.Config.{votes_of}
use Rattle.qc_scan.proofs.same.same_config.Given as goal

-- the copies so far have the same votes
abbrev pub invariant-loop-c : goal.invariant-loop-c
invariant-loop-c l = (j : ℕ) → j < l.c → votes_of l.a j ≡ votes_of l.b j
