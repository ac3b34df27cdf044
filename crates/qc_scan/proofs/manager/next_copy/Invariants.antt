use Rattle.std.proofs.Common.{◌≡◌, ℕ, ◌<◌, ◌&&◌, false, nat_lt}
use Rattle.std.specs.Prelude.{is_none}
use Rattle.qc_config.specs.Config.{votes_of}
use Rattle.qc_event.specs.Manager.{ask_at}
use Rattle.qc_scan.proofs.manager.next_copy.Given as goal

-- each copy so far has no votes, or was asked
abbrev pub invariant-loop-copy : goal.invariant-loop-copy
invariant-loop-copy g l = (j : ℕ) → j < l.copy → (nat_lt 0 (votes_of l.stage.config j) && is_none (ask_at (g.H.Looks.past l.h) l.m l.stage.phase j)) ≡ false
