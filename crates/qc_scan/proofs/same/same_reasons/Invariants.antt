use Rattle.std.proofs.Common.{◌≡◌, ℕ, ◌<◌, get_or}
use Rattle.std.specs.Prelude.{None}
use Rattle.qc_scan.proofs.same.same_reasons.Given as goal

-- the reasons so far are the same
abbrev pub invariant-loop-c : goal.invariant-loop-c
invariant-loop-c l = (j : ℕ) → j < l.c → get_or l.a j None ≡ get_or l.b j None
