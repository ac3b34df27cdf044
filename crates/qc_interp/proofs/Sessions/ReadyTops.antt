-- In every legal history what is ready is a started top.
use Rattle.std.proofs.Common.{◌≡◌, inl, inr, true, false, [], ◌∷◌, length, sym, subst}
use mathlib.Core.Bool.{true≢false}
use Rattle.std.specs.Prelude.{is_some, None}
use Rattle.std.proofs.lemmas.Bool.{false_from_ne_true}
use Rattle.qc_event.specs.History.{Past, Name, start, is_ready}
use Rattle.qc_event.specs.Base.{Setting}
use Rattle.qc_event.specs.Users.{MayReady}
use Rattle.qc_event.specs.Legal.{Legal, MayHappen}
use Rattle.qc_event.proofs.OneEntry.{start_stays, ready_step, some_or_none}

pub ready_is_top : (setting : Setting) (past : Past) (n : Name) → Legal setting past → is_ready past n ≡ true → (length n ≡ 1) × (is_some (start past n) ≡ true)
ready_is_top setting [] n legal h = absurd (true≢false (sym h))
ready_is_top setting (e ∷ past) n legal h = elim (ready_step e past n h) [
  | inl old ↦ let is = ready_is_top setting past n legal.0 old in (is.0, start_stays e past n is.1)
  | inr new ↦ let may : MayReady past e.seat n = subst (MayHappen setting past e.seat) new legal.1 in (may.is_top, start_stays e past n may.is_open.started)
]

pub unstarted_unready : (setting : Setting) (past : Past) (n : Name) → Legal setting past → start past n ≡ None → is_ready past n ≡ false
unstarted_unready setting past n legal none = false_from_ne_true _ (λ h. some_or_none (start past n) (ready_is_top setting past n legal h).1 none)
