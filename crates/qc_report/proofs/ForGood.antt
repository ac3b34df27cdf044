-- Whether something holds of each ancestor of a name but the root.
use Rattle.std.proofs.Common.{◌≡◌, ℕ, zero, suc, ◌+◌, ◌<◌, ◌≤◌, Bool, true, false, [], ◌∷◌, length, take, drop, refl, sym, ◌∙◌, subst, arith}
use Rattle.std.specs.Prelude.{nat_lt}
use Rattle.std.proofs.lemmas.Bool.Decides.{nat_tests}
use Rattle.std.specs.List.{list_all}
use Rattle.qc_event.specs.Dead.{ancestors}
use Rattle.qc_event.specs.History.{Name}
use Rattle.qc_event.proofs.Ancestors.{list_all-map, all_ancestors, not_all_ancestors}

pub all_but_root : (p : Name → Bool) (n : Name) → ((j : ℕ) → 0 < j → j < length n + 1 → p (take j n) ≡ true) → list_all p (drop 1 (ancestors n)) ≡ true
all_but_root p [] each = refl
all_but_root p (x ∷ xs) each = list_all-map p (λ a. x ∷ a) (ancestors xs) ∙ all_ancestors (λ a. p (x ∷ a)) xs (λ j h. each (suc j) (omega arith) (omega arith))

pub not_all_but_root : (p : Name → Bool) (n : Name) (k : ℕ) → 0 < k → k ≤ length n → p (take k n) ≡ false → list_all p (drop 1 (ancestors n)) ≡ false
not_all_but_root p [] k some within not_so = absurd (omega arith)
not_all_but_root p (x ∷ xs) zero some within not_so = absurd (omega arith)
not_all_but_root p (x ∷ xs) (suc k) some within not_so = list_all-map p (λ a. x ∷ a) (ancestors xs) ∙ not_all_ancestors (λ a. p (x ∷ a)) xs k (omega arith) not_so

-- of each length up to another, and then of that
pub one_longer : (p : Name → Bool) (n : Name) (k : ℕ) → ((j : ℕ) → 0 < j → j < k → p (take j n) ≡ true) → p (take k n) ≡ true → (j : ℕ) → 0 < j → j < k + 1 → p (take j n) ≡ true
one_longer p n k each last j some within = by_test (nat_lt j k) refl
  where
    by_test : (b : Bool) → nat_lt j k ≡ b → p (take j n) ≡ true
    by_test true is = each j some (grind (arith, nat_tests))
    by_test false is = let same : j ≡ k = grind (arith, nat_tests) in subst (λ i. p (take i n) ≡ true) (sym same) last
