-- From facts on each of some numbers, of which each is known to hold, all at once.
use Rattle.std.proofs.Common.{ℕ, zero, suc, ◌<◌, inl, inr, sym, subst, arith}
use Rattle.std.proofs.Math.Logic.{∥∥₁_elim, ∥∥₁_map, ∥∥₁_prop}
use Rattle.std.proofs.lemmas.Bool.{cases_eq}

abbrev pub Each : ℕ → (ℕ → Type 0) → Type 0
Each n P = (k : ℕ) → k < n → P k

with_last : (n : ℕ) (P : ℕ → Type 0) → Each n P → P n → Each (suc n) P
with_last n P each last k lt = elim (cases_eq k n) [
  | inl same ↦ subst P (sym same) last
  | inr other ↦ each k (omega (arith, lt, other))
]

pub each_at_once : (n : ℕ) (P : ℕ → Type 0) → Each n (λ k. ∥ P k ∥₁) → ∥ Each n P ∥₁
each_at_once zero P each = ∣ (λ k lt. absurd (omega (arith, lt))) ∣₁
each_at_once (suc n) P each =
    ∥∥₁_elim (each_at_once n P (λ k lt. each k (omega (arith, lt)))) ∥∥₁_prop
    (λ earlier. ∥∥₁_map (each n (omega arith)) (λ last. with_last n P earlier last))
