use Rattle.std.proofs.Common.{◌≡◌, ℕ, ◌<◌, true}
use Rattle.qc_event.specs.Aborts.{is_known}
use Rattle.qc_check.proofs.aborts.each_is_known.Given as goal

-- the copies so far are known
abbrev pub invariant-loop-copy : goal.invariant-loop-copy
invariant-loop-copy g l = (j : ℕ) → j < l.copy → is_known (g.H.Looks.past l.h) l.m l.stage j ≡ true
