-- What a search of a list finds, and which places a list has.
use Rattle.std.proofs.Common.{◌≡◌, ℕ, zero, suc, ◌+◌, ◌<◌, ◌⊎◌, inl, inr, Bool, true, false, cond, List, [], ◌∷◌, length, refl, sym, ap, ◌∙◌, subst, arith}
use Rattle.std.specs.Prelude.{Option, Some, find, slice_index_or}
use Rattle.std.specs.List.{AllByRecursion, range_with_len}

pub found_cases : {X : Type 0} (b : Bool) (x c : X) (rest : Option X) → cond b (Some x) rest ≡ Some c → ((b ≡ true) × (x ≡ c)) ⊎ ((b ≡ false) × (rest ≡ Some c))
found_cases true x c rest is = inl (refl, cc)
found_cases false x c rest is = inr (refl, is)

pub found_passes : {X : Type 0} (p : X → Bool) (xs : List X) (c : X) → find p xs ≡ Some c → p c ≡ true
found_passes p [] c is = absurd cc
found_passes p (x ∷ xs) c is = elim (found_cases (p x) x c (find p xs) is) [
  | inl here ↦ ap p (sym here.1) ∙ here.0
  | inr below ↦ found_passes p xs c below.1
]

-- what holds of each holds of the one that is found
pub found_holds : {X : Type 0} (P : X → Type 0) (p : X → Bool) (xs : List X) (c : X) → AllByRecursion P xs → find p xs ≡ Some c → P c
found_holds P p [] c all is = absurd cc
found_holds P p (x ∷ xs) c all is = elim (found_cases (p x) x c (find p xs) is) [
  | inl here ↦ subst P here.1 all.0
  | inr below ↦ found_holds P p xs c all.1 below.1
]

pub found_within : (p : ℕ → Bool) (a n c : ℕ) → find p (range_with_len a n) ≡ Some c → c < a + n
found_within p a zero c is = absurd cc
found_within p a (suc n) c is = elim (found_cases (p a) a c (find p (range_with_len (a + 1) n)) is) [
  | inl here ↦ let same : a ≡ c = here.1 in omega arith
  | inr below ↦ let lt : c < a + 1 + n = found_within p (a + 1) n c below.1 in omega arith
]

-- what is found in a range is in it, and passes
pub found_range : (p : ℕ → Bool) (a n c : ℕ) → find p (range_with_len a n) ≡ Some c → (c < a + n) × (p c ≡ true)
found_range p a n c is = (found_within p a n c is, found_passes p (range_with_len a n) c is)

-- where a list has a number, it has the place
pub has_place : (numbers : List ℕ) (c : ℕ) → 0 < slice_index_or numbers c 0 → c < length numbers
has_place [] c some = absurd (omega arith)
has_place (n ∷ numbers) zero some = omega arith
has_place (n ∷ numbers) (suc c) some = omega (arith, has_place numbers c some)
