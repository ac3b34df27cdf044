-- What every legal history keeps of the root and of its ready tops.
use Rattle.std.proofs.Common.{◌≡◌, true, [], ◌∷◌, sym, ap, subst, inl, inr}
use mathlib.Core.Bool.{true≢false}
use Rattle.std.specs.Prelude.{None, is_some, find}
use Rattle.qc_event.specs.Base.{Setting}
use Rattle.qc_event.specs.Dead.{outcome_of, is_aborted, dead}
use Rattle.qc_event.specs.History.{Past, Name, start, is_ready}
use Rattle.qc_event.specs.Legal.{Legal}
use Rattle.qc_event.proofs.Lawful.{lawful}
use Rattle.qc_event.proofs.LegalOrderly.{legal_orderly}
use Rattle.qc_event.proofs.OneEntry.{ready_step, start_stays}
use Rattle.qc_event.proofs.Orderly.{KeepsOrder}

-- the root is never dead
pub root_alive : (setting : Setting) (past : Past) → Legal setting past → dead past [] ≡ None
root_alive setting past legal = ap (λ o. find (λ (a : Name). is_aborted (outcome_of o)) ([] ∷ [])) (lawful past (legal_orderly setting past legal)).no_root_end

-- who is ready was started
pub ready_started : (setting : Setting) (past : Past) (n : Name) → Legal setting past → is_ready past n ≡ true → is_some (start past n) ≡ true
ready_started setting [] n legal ready = absurd (true≢false (sym ready))
ready_started setting (e ∷ past) n legal ready = start_stays e past n (elim (ready_step e past n ready) [
  | inl old ↦ ready_started setting past n legal.0 old
  | inr is ↦ (subst (KeepsOrder past) is (legal_orderly setting (e ∷ past) legal).1).is_open.started
])
