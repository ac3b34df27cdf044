use Rattle.std.proofs.Common.{◌≡◌, ◌<◌, ℕ, false, nat_lt}
use Rattle.std.specs.Prelude.{◌&&◌, not}
use Rattle.qc_config.specs.Config.{votes_of}
use Rattle.qc_config.specs.Copies.{has}
use Rattle.qc_managers.proofs.heard.Heard.unasked.Given as goal

-- none of the copies so far has votes and was not asked
abbrev pub invariant-loop-copy : goal.invariant-loop-copy
invariant-loop-copy l = (k : ℕ) → k < l.copy → (nat_lt 0 (votes_of l.config k) && not (has l.self.asked k)) ≡ false
