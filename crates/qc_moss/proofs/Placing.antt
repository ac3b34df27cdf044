-- The next lock in its place.
use Rattle.std.proofs.Common.{◌≡◌, ℕ, zero, suc, ◌<◌, Bool, true, false, List, [], ◌∷◌, length, take, get_or, refl, sym, ap, arith}
use mathlib.Core.Bool.{true≢false}
use Rattle.std.specs.Prelude.{slice_set, if◌then◌else◌}
use Rattle.qc_event.specs.History.{same}
use Rattle.qc_moss.specs.declared.holder.Holder.{Holder}
use Rattle.qc_moss.specs.Locks.{joined, with_neighbour}

pub if_yes : {Y : Type 0} (b : Bool) (x y : Y) → b ≡ true → x ≡ (if b then x else y)
if_yes true x y h = refl
if_yes false x y h = absurd (true≢false (sym h))

pub if_un : {Y : Type 0} (b : Bool) (x y : Y) → b ≡ false → y ≡ (if b then x else y)
if_un true x y h = absurd (true≢false h)
if_un false x y h = refl

pub place_joined : (xs : List Holder) (i : ℕ) (h d : Holder) → i < length xs → same (get_or xs i d).at h.at ≡ true → take (suc i) (slice_set xs i (joined (get_or xs i d) h)) ≡ with_neighbour (take (suc i) xs) h
place_joined [] i h d less is = absurd (omega arith)
place_joined (x ∷ xs) zero h d less is = if_yes (same x.at h.at) (joined x h ∷ []) (x ∷ h ∷ []) is
place_joined (x ∷ []) (suc i) h d less is = absurd (omega arith)
place_joined (x ∷ y ∷ xs) (suc i) h d less is = ap (λ t. x ∷ t) (place_joined (y ∷ xs) i h d (omega arith) is)

pub place_alone : (xs : List Holder) (k : ℕ) (h d : Holder) → k < length xs → ((i : ℕ) → k ≡ suc i → same (get_or xs i d).at h.at ≡ false) → take (suc k) (slice_set xs k h) ≡ with_neighbour (take k xs) h
place_alone [] k h d less apart = absurd (omega arith)
place_alone (x ∷ xs) zero h d less apart = refl
place_alone (x ∷ []) (suc k) h d less apart = absurd (omega arith)
place_alone (x ∷ y ∷ xs) (suc zero) h d less apart = if_un (same x.at h.at) (joined x h ∷ []) (x ∷ h ∷ []) (apart 0 refl)
place_alone (x ∷ y ∷ xs) (suc (suc k)) h d less apart = ap (λ t. x ∷ t) (place_alone (y ∷ xs) (suc k) h d (omega arith) (λ i is. apart (suc i) (ap suc is)))
