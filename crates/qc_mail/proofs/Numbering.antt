-- Queues get their copies' numbers, from the first on.
use Rattle.std.proofs.Common.{◌≡◌, ℕ, zero, suc, ◌+◌, ◌-◌, ◌<◌, List, [], ◌∷◌, ◌++◌, length, map, get_or, drop, All, sym, ap, ◌∙◌, arith}
use Rattle.std.proofs.lemmas.List.Elements.{All-push, All-same}
use Rattle.std.specs.List.{range_with_len}
use Rattle.std.proofs.lemmas.List.{map-append}

range_more : (a n j : ℕ) → a + n ≡ j → range_with_len a n ++ j ∷ [] ≡ range_with_len a (suc n)
range_more a zero j e = ap (λ (k : ℕ). k ∷ []) (omega (arith, e))
range_more a (suc n) j e = ap (λ (l : List ℕ). a ∷ l) (range_more (a + 1) n j (omega (arith, e)))

-- what is pushed behind others: numbers in order and the next one, and what holds of each
module _ {X : Type 0} (xs zs : List X) (x : X) (is : zs ≡ xs ++ x ∷ []) where
  pub one_more : (number : X → ℕ) (n : ℕ) → map number xs ≡ range_with_len 0 n → number x ≡ n → map number zs ≡ range_with_len 0 (n + 1)
  one_more number n ordered same =
      let next : n + 1 ≡ suc n = omega arith in
      ap (map number) is ∙ map-append number xs (x ∷ [])
      ∙ ap (λ (l : List ℕ). l ++ number x ∷ []) ordered ∙ range_more 0 n (number x) (omega (arith, same)) ∙ ap (range_with_len 0) (sym next)

  pub all_more : (P : X → Type 0) → All P xs → P x → All P zs
  all_more P all here = All-same P zs (xs ++ x ∷ []) is (All-push P xs x all here)

head_is : {X : Type 0} (x y : X) (xs ys : List X) → x ∷ xs ≡ y ∷ ys → (x ≡ y) × (xs ≡ ys)
head_is x y xs ys e = (cc, cc)

pub next_lane : {X Y : Type 0} (id : X → Y) (lanes : ℕ → Y) (xs : List X) (c n : ℕ) → c < n → map id xs ≡ map lanes (range_with_len c (n - c))
    → (0 < length xs) × ((x : X) → x ≡ get_or xs 0 x → id x ≡ lanes c) × (map id (drop 1 xs) ≡ map lanes (range_with_len (c + 1) (n - (c + 1))))
next_lane {X} {Y} id lanes xs c n within is = by_cases xs (is ∙ ap (λ k. map lanes (range_with_len c k)) left)
  where
    left : n - c ≡ suc (n - (c + 1))
    left = omega (arith, within)

    by_cases : (xs : List X) → map id xs ≡ lanes c ∷ map lanes (range_with_len (c + 1) (n - (c + 1)))
        → (0 < length xs) × ((x : X) → x ≡ get_or xs 0 x → id x ≡ lanes c) × (map id (drop 1 xs) ≡ map lanes (range_with_len (c + 1) (n - (c + 1))))
    by_cases [] e = absurd (cc)
    by_cases (y ∷ ys) e =
        let both = head_is (id y) (lanes c) (map id ys) (map lanes (range_with_len (c + 1) (n - (c + 1)))) e in
        (omega arith, λ x at. ap id at ∙ both.0, both.1)
