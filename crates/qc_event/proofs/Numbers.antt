-- What tests of numbers tell.
use Rattle.std.proofs.Common.{◌≡◌, ◌⊎◌, inl, inr, ℕ, zero, suc, ◌+◌, ◌<◌, true, false, refl, sym, ap, arith}
use Rattle.std.specs.Prelude.{◌==◌}
use Rattle.std.specs.BTreeMap.{is_at}
use Rattle.std.specs.Cmp.{nat_cmp_is}
use Rattle.std.specs.Ordering.{nat_cmp, is_eq}
use Rattle.std.specs.declared.cmp.Ordering.TheVariants.{Equal}
use Rattle.std.proofs.lemmas.Bool.{eqb-false}

pub nonzero : (n : ℕ) → (n == 0) ≡ false → 0 < n
nonzero n h = let other = eqb-false n 0 h in omega arith

pub is_at_itself : (n : ℕ) → is_at (nat_cmp n) n ≡ true
is_at_itself n = ap is_eq (sym (nat_cmp_is n n Equal refl))

pub before_or_at : (i count : ℕ) → i < count + 1 → (i < count) ⊎ (i ≡ count)
before_or_at zero zero few = inr refl
before_or_at zero (suc count) few = inl (omega arith)
before_or_at (suc i) zero few = let z : ⊥ = omega (arith, few) in absurd z
before_or_at (suc i) (suc count) few = elim (before_or_at i count (omega (arith, few))) [
  | inl less ↦ inl (omega (arith, less))
  | inr same ↦ inr (ap suc same)
]
