use Rattle.std.proofs.Common.{◌≡◌, ℕ, ◌<◌, get_or}
use Rattle.std.specs.Prelude.{None}
use Rattle.qc_event.specs.Manager.{missing_at}
use Rattle.qc_check.proofs.aborts.tells_missing.Given as goal

-- of the copies so far it is told why they are missing
abbrev pub invariant-loop-copy : goal.invariant-loop-copy
invariant-loop-copy g l = (j : ℕ) → j < l.copy → get_or l.missing j None ≡ missing_at (g.H.Looks.past l.h) l.m l.phase j
