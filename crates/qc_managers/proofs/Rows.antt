-- Rows over all copies: what changes where one place does, and the first number of a range that passes a test.
use Rattle.std.proofs.Common.{◌≡◌, ℕ, zero, suc, ◌+◌, ◌<◌, ◌≤◌, Bool, true, false, length, map, refl, sym, ap, ◌∙◌, arith, get_or, inl, inr}
use Rattle.std.proofs.Math.ListN.{set}
use Rattle.std.proofs.lemmas.Bool.{cases_eq}
use Rattle.std.proofs.lemmas.List.{length-set, get_or-set_other}
use Rattle.std.proofs.lemmas.List.FromFn.{fill_by_all, length-map-range_with_len, get_or-map-range_with_len}
use Rattle.std.proofs.lemmas.Grind.{get_or-set_at}
use Rattle.std.specs.List.{range_with_len}
use Rattle.std.specs.Prelude.{find, Some, None, cond}

-- a row with another value at one place
pub row_set : {X : Type 0} (f g : ℕ → X) (n c : ℕ) (v : X) → c < n → ((k : ℕ) → (k ≡ c → ⊥) → g k ≡ f k) → g c ≡ v → map g (range_with_len 0 n) ≡ set (map f (range_with_len 0 n)) c v
row_set f g n c v within others here =
    let row = map f (range_with_len 0 n) in
    let long : length row ≡ n = length-map-range_with_len f 0 n in
    sym (fill_by_all g (set row c v) n v (length-set row c v ∙ long) (λ k lt. elim (cases_eq k c) [
      | inl same ↦ get_or-set_at row c k v v same (omega arith) ∙ sym (ap g same ∙ here)
      | inr other ↦ get_or-set_other row c k v v other ∙ get_or-map-range_with_len f 0 n k k v lt (omega arith) ∙ sym (others k other)
    ]))

-- rows that agree at each place
pub row_same : {X : Type 0} (f g : ℕ → X) (n : ℕ) (d : X) → ((k : ℕ) → g k ≡ f k) → map g (range_with_len 0 n) ≡ map f (range_with_len 0 n)
row_same f g n d same =
    fill_by_all f (map g (range_with_len 0 n)) n d (length-map-range_with_len g 0 n) (λ k lt. get_or-map-range_with_len g 0 n k k d lt (omega arith) ∙ same k)

-- the first of a range that passes
pub found_first : (p : ℕ → Bool) (a n c : ℕ) → a ≤ c → c < a + n → ((k : ℕ) → k < c → p k ≡ false) → p c ≡ true → find p (range_with_len a n) ≡ Some c
found_first p a zero c from within before here = absurd (omega arith)
found_first p a (suc n) c from within before here = elim (cases_eq a c) [
  | inl same ↦ ap (λ b. cond b (Some a) (find p (range_with_len (a + 1) n))) (ap p same ∙ here) ∙ ap (λ k. Some k) same
  | inr other ↦ ap (λ b. cond b (Some a) (find p (range_with_len (a + 1) n))) (before a (omega arith)) ∙ found_first p (a + 1) n c (omega arith) (omega arith) before here
]

-- where none of a range passes, none is found
pub found_none : (p : ℕ → Bool) (a n : ℕ) → ((k : ℕ) → k < a + n → p k ≡ false) → find p (range_with_len a n) ≡ None
found_none p a zero none = refl
found_none p a (suc n) none = ap (λ b. cond b (Some a) (find p (range_with_len (a + 1) n))) (none a (omega arith)) ∙ found_none p (a + 1) n (λ k lt. none k (omega arith))

-- what stands at a place of a row
pub row_at : {X : Type 0} (f : ℕ → X) (n k : ℕ) (d : X) → k < n → get_or (map f (range_with_len 0 n)) k d ≡ f k
row_at f n k d lt = get_or-map-range_with_len f 0 n k k d lt (omega arith)
