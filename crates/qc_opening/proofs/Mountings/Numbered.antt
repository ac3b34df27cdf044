-- Lists whose items go by numbers in order.
use Rattle.std.proofs.Common.{◌≡◌, ℕ, zero, suc, ◌+◌, ◌<◌, ◌≤◌, List, [], ◌∷◌, ◌++◌, length, map, subst, ap, refl, arith}
use Rattle.std.specs.Prelude.{Some, slice_get}
use Rattle.qc_opening.specs.Numbered.{EachFrom, PairsFrom}

-- one item more
pub each_more : {A : Type 0} (P : ℕ → A → Type 0) (number last : ℕ) (items : List A) (item : A) → EachFrom P number items → number + length items ≡ last → P last item → EachFrom P number (items ++ item ∷ [])
each_more P number last [] item each is has = (let same : last ≡ number = omega (arith, is) in subst (λ n. P n item) same has, tt)
each_more P number last (first ∷ items) item each is has = (each.0, each_more P (number + 1) last items item each.1 (omega (arith, is)) has)

module _ {A B : Type 0} (R : ℕ → A → B → Type 0) where
  pub pairs_length : (number : ℕ) (items : List A) (others : List B) → PairsFrom R number items others → length others ≡ length items
  pairs_length number [] [] pairs = refl
  pairs_length number [] (other ∷ others) pairs = absurd pairs
  pairs_length number (item ∷ items) [] pairs = absurd pairs
  pairs_length number (item ∷ items) (other ∷ others) pairs = ap suc (pairs_length (number + 1) items others pairs.1)

  -- two lists behind two others
  pub pairs_append : (number last : ℕ) (items : List A) (others : List B) (more : List A) (behind : List B) → PairsFrom R number items others → number + length items ≡ last → PairsFrom R last more behind
      → PairsFrom R number (items ++ more) (others ++ behind)
  pairs_append number last [] [] more behind pairs is then = let same : last ≡ number = omega (arith, is) in subst (λ n. PairsFrom R n more behind) same then
  pairs_append number last [] (other ∷ others) more behind pairs is then = absurd pairs
  pairs_append number last (item ∷ items) [] more behind pairs is then = absurd pairs
  pairs_append number last (item ∷ items) (other ∷ others) more behind pairs is then =
      (pairs.0, pairs_append (number + 1) last items others more behind pairs.1 (omega (arith, is)) then)

  -- one pair more
  pub pairs_more : (number last : ℕ) (items : List A) (others : List B) (item : A) (other : B) → PairsFrom R number items others → number + length items ≡ last → R last item other
      → PairsFrom R number (items ++ item ∷ []) (others ++ other ∷ [])
  pairs_more number last items others item other pairs is has = pairs_append number last items others (item ∷ []) (other ∷ []) pairs is (has, tt)

  -- by the numbers of disks, which are one more than those of copies
  pub pairs_shifted : (number : ℕ) (items : List A) (others : List B) → PairsFrom (λ n. R (n + 1)) number items others → PairsFrom R (number + 1) items others
  pairs_shifted number [] [] pairs = tt
  pairs_shifted number [] (other ∷ others) pairs = absurd pairs
  pairs_shifted number (item ∷ items) [] pairs = absurd pairs
  pairs_shifted number (item ∷ items) (other ∷ others) pairs = (pairs.0, pairs_shifted (number + 1) items others pairs.1)

-- what follows of each pair
pub pairs_mapped : {A B C : Type 0} (R : ℕ → A → B → Type 0) (S : ℕ → A → C → Type 0) (f : B → C) (number : ℕ) (items : List A) (others : List B) → PairsFrom R number items others
    → ((n : ℕ) (item : A) (other : B) → n < number + length items → R n item other → S n item (f other)) → PairsFrom S number items (map f others)
pairs_mapped R S f number [] [] pairs also = tt
pairs_mapped R S f number [] (other ∷ others) pairs also = absurd pairs
pairs_mapped R S f number (item ∷ items) [] pairs also = absurd pairs
pairs_mapped R S f number (item ∷ items) (other ∷ others) pairs also = (
  also number item other (omega arith) pairs.0,
  pairs_mapped R S f (number + 1) items others pairs.1 (λ n x y low. also n x y (omega (arith, low))),
)

pub pairs_also : {A B : Type 0} (R S : ℕ → A → B → Type 0) (number : ℕ) (items : List A) (others : List B) → ((n : ℕ) (item : A) (other : B) → R n item other → S n item other) → PairsFrom R number items others → PairsFrom S number items others
pairs_also R S number [] [] also pairs = tt
pairs_also R S number [] (other ∷ others) also pairs = absurd pairs
pairs_also R S number (item ∷ items) [] also pairs = absurd pairs
pairs_also R S number (item ∷ items) (other ∷ others) also pairs = (also number item other pairs.0, pairs_also R S (number + 1) items others also pairs.1)

-- each item with itself
pub pairs_same : {A : Type 0} (R : ℕ → A → A → Type 0) (number : ℕ) (items : List A) → ((n : ℕ) (item : A) → number ≤ n → n < number + length items → R n item item) → PairsFrom R number items items
pairs_same R number [] each = tt
pairs_same R number (item ∷ items) each = (each number item (omega arith) (omega arith), pairs_same R (number + 1) items (λ n x from low. each n x (omega (arith, from)) (omega (arith, low))))

-- what follows of each pair, by the place where it stands
pub pairs_placed : {A B C E : Type 0} (R : ℕ → A → B → Type 0) (S : ℕ → C → E → Type 0) (f : A → C) (h : B → E) (number start : ℕ) (items : List A) (others : List B) → PairsFrom R number items others
    → ((place n m : ℕ) (item : A) (other : B) → n ≡ number + place → m ≡ start + place → slice_get items place ≡ Some item → R n item other → S m (f item) (h other)) → PairsFrom S start (map f items) (map h others)
pairs_placed R S f h number start [] [] pairs also = tt
pairs_placed R S f h number start [] (other ∷ others) pairs also = absurd pairs
pairs_placed R S f h number start (item ∷ items) [] pairs also = absurd pairs
pairs_placed R S f h number start (item ∷ items) (other ∷ others) pairs also = (
  also zero number start item other (omega arith) (omega arith) refl pairs.0,
  pairs_placed R S f h (number + 1) (start + 1) items others pairs.1 (λ place n m x y is at get has. also (suc place) n m x y (omega (arith, is)) (omega (arith, at)) get has),
)
