-- Sixteen marks are a set of numbers below 16: they are the same where they have the same members.
use Rattle.std.proofs.Common.{◌≡◌, ℕ, zero, suc, ◌<◌, Bool, false, List, [], ◌∷◌, length, refl, sym, ap, ap₂, ◌∙◌, arith, ne_eqb}
use Rattle.std.proofs.lemmas.Bool.Decides.{nat_tests}
use Rattle.std.specs.Prelude.{replicate, ◌==◌, ◌||◌}
use Rattle.qc_config.specs.Copies.{has, with}

pub same_members : (a b : List Bool) → length a ≡ length b → ((c : ℕ) → c < length a → has a c ≡ has b c) → a ≡ b
same_members [] [] same h = refl
same_members [] (y ∷ b) same h = absurd (omega arith)
same_members (x ∷ a) [] same h = absurd (omega arith)
same_members (x ∷ a) (y ∷ b) same h = ap₂ (λ m ms. m ∷ ms) (h 0 (omega arith)) (same_members a b (omega arith) (λ c lt. h (suc c) (omega arith)))

pub none_has : (n c : ℕ) → has (replicate n false) c ≡ false
none_has zero c = refl
none_has (suc n) zero = refl
none_has (suc n) (suc c) = none_has n c

pub with_has : (a : List Bool) (c d : ℕ) → c < length a → has (with a c) d ≡ ((d == c) || has a d)
with_has [] c d lt = absurd (omega arith)
with_has (x ∷ a) zero zero lt = refl
with_has (x ∷ a) zero (suc d) lt = sym (ap (λ b. b || has a d) (ne_eqb (suc d) 0 (λ e. omega arith)))
with_has (x ∷ a) (suc c) zero lt = sym (ap (λ b. b || x) (ne_eqb 0 (suc c) (λ e. omega arith)))
with_has (x ∷ a) (suc c) (suc d) lt = with_has a c d (omega arith) ∙ ap (λ b. b || has a d) (same_tests d c)
  where
    same_tests : (m n : ℕ) → (m == n) ≡ (suc m == suc n)
    same_tests m n = grind (arith, nat_tests)
