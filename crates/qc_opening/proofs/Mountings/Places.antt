-- The places of a store's disks, and the numbers of the disks that stand there.
use Rattle.std.proofs.Common.{◌≡◌, ◌≢◌, ℕ, ◌+◌, ◌-◌, ◌<◌, ◌≤◌, All, List, [], ◌∷◌, ◌++◌, length, subst, refl, sym, ap, ap₂, inl, inr, arith, ◌∙◌}
use Rattle.std.specs.Prelude.{Bool, true, false, nat_lt, if◌then◌else◌}
use Rattle.std.proofs.lemmas.Bool.{cases_lt}
use Rattle.std.proofs.lemmas.Bool.Decides.{nat_tests}
use Rattle.std.proofs.lemmas.List.{get_or_append_left, get_or_push, length-append}
use Rattle.std.proofs.lemmas.List.FromFn.{get_or-map-range_with_len, length-map-range_with_len, map-range_with_len_more}
use Rattle.qc_opening.specs.Disks.{first_numbers, is_spare_at, number_of, pair_at}

-- what stands at the place of a disk, and at that of a spare
pub record IsPlaceOf (copies : ℕ) (is_spare : Bool) (pair place : ℕ) : Type 0 where
  pub spare : is_spare_at copies place ≡ is_spare
  pub of_pair : pair_at copies place ≡ pair
  pub number : number_of copies place ≡ (if is_spare then pair + 17 else pair)

below : (copies place : ℕ) → place ≤ copies → nat_lt copies place ≡ false
below copies place low = grind (arith, nat_tests)

behind : (copies place : ℕ) → copies < place → nat_lt copies place ≡ true
behind copies place high = grind (arith, nat_tests)

pub own_place : (copies pair : ℕ) → pair ≤ copies → IsPlaceOf copies false pair pair
own_place copies pair low =
    let test = below copies pair low in
    record {
      spare = test;
      of_pair = ap (λ (b : Bool). if b then pair - (copies + 1) else pair) test;
      number = ap₂ (λ (s : Bool) (n : ℕ). if s then n + 17 else n) test (ap (λ (b : Bool). if b then pair - (copies + 1) else pair) test);
    }

pub spare_place : (copies pair place : ℕ) → place ≡ copies + 1 + pair → IsPlaceOf copies true pair place
spare_place copies pair place is =
    let test = behind copies place (omega (arith, is)) in
    let back : place - (copies + 1) ≡ pair = omega (arith, is) in
    let at : pair_at copies place ≡ pair = ap (λ (b : Bool). if b then place - (copies + 1) else place) test ∙ back in
    record {
      spare = test;
      of_pair = at;
      number = ap₂ (λ (s : Bool) (n : ℕ). if s then n + 17 else n) test at;
    }

-- NUMBERS

-- the number at the next place
pub numbers_more : (copies at : ℕ) → first_numbers copies (at + 1) ≡ first_numbers copies at ++ number_of copies at ∷ []
numbers_more copies at = map-range_with_len_more (number_of copies) 0 at at (omega arith)

-- what holds of the number at each place below one
pub all_numbered : (P : ℕ → Type 0) (copies many : ℕ) → ((place : ℕ) → place < many → P (number_of copies place)) → All P (first_numbers copies many)
all_numbered P copies many each = λ k d low.
    let there : k < many = omega (arith, low, length-map-range_with_len (number_of copies) 0 many) in
    subst P (sym (get_or-map-range_with_len (number_of copies) 0 many k k d there (omega arith))) (each k there)

number_behind : (copies place : ℕ) → copies < place → number_of copies place ≡ place - (copies + 1) + 17
number_behind copies place high = (spare_place copies (place - (copies + 1)) place (omega (arith, high))).number

-- no two places have one number
pub apart : (copies earlier place : ℕ) → copies ≤ 16 → earlier < place → number_of copies place ≢ number_of copies earlier
apart copies earlier place few low same = elim (cases_lt copies place) [
  | inr here ↦ omega (arith, low, here, same, (own_place copies place here).number, (own_place copies earlier (omega (arith, low, here))).number)
  | inl there ↦ elim (cases_lt copies earlier) [
    | inl both ↦ omega (arith, low, same, both, number_behind copies place there, number_behind copies earlier both)
    | inr before ↦ omega (arith, few, before, same, number_behind copies place there, (own_place copies earlier before).number)
  ]
]

all_before : {A : Type 0} (P : A → Type 0) (items : List A) (last : A) → All P (items ++ last ∷ []) → All P items × P last
all_before P items last each =
    let long = length-append items (last ∷ []) in (
      λ k d low. subst P (get_or_append_left items (last ∷ []) d k low) (each k d (omega (arith, low, long))),
      subst P (get_or_push items last last (length items) refl) (each (length items) last (omega (arith, long))),
    )

-- none of the numbers so far, and not this one
pub none_so_far : (copies at n : ℕ) → All (λ which. n ≢ which) (first_numbers copies (at + 1)) → All (λ which. n ≢ which) (first_numbers copies at) × (n ≢ number_of copies at)
none_so_far copies at n none = all_before (λ which. n ≢ which) (first_numbers copies at) (number_of copies at) (subst (All (λ which. n ≢ which)) (numbers_more copies at) none)
