-- Lists that are gone over in order, and what becomes of each element.
use Rattle.std.proofs.Common.{◌≡◌, ℕ, zero, suc, ◌+◌, ◌<◌, ◌≤◌, List, [], ◌∷◌, ◌++◌, length, get_or, take, drop, map, set, slice_index_or, slice_set, refl, sym, ap, ◌∙◌, subst, append_assoc, append-nil, arith, add-one, drop-cons, length-append}
use Rattle.std.proofs.lemmas.List.{drop_all, take_all, map-append}
use Rattle.std.proofs.Math.Seq.{set-append_seam}
use Rattle.qc_interp.specs.AtOnce.{InPairs}

pub pairs_after : {A : Type 0} (P : A → A → Type 0) (xs ys : List A) (x y : A) → InPairs P xs ys → P x y → InPairs P (xs ++ x ∷ []) (ys ++ y ∷ [])
pairs_after P [] [] x y h one = (one, tt)
pairs_after P [] (b ∷ ys) x y h one = absurd h
pairs_after P (a ∷ xs) [] x y h one = absurd h
pairs_after P (a ∷ xs) (b ∷ ys) x y h one = (h.0, pairs_after P xs ys x y h.1 one)

-- at each place
pub pairs_at : {A B : Type 0} (f : A → B) (P : B → B → Type 0) (xs ys : List A) → length ys ≡ length xs → ((i : ℕ) (d : A) → i < length xs → P (f (slice_index_or xs i d)) (f (slice_index_or ys i d))) → InPairs P (map f xs) (map f ys)
pairs_at f P [] [] long h = tt
pairs_at f P [] (y ∷ ys) long h = absurd cc
pairs_at f P (x ∷ xs) [] long h = absurd cc
pairs_at f P (x ∷ xs) (y ∷ ys) long h = (h 0 x (omega arith), pairs_at f P xs ys (omega (arith, long)) (λ i d lt. h (suc i) d (omega (arith, lt))))

first_taken : {A : Type 0} (xs : List A) (i : ℕ) (d : A) → i < length xs → take (suc i) xs ≡ take i xs ++ get_or xs i d ∷ []
first_taken [] i d lt = absurd (omega (arith, lt))
first_taken (x ∷ xs) zero d lt = refl
first_taken (x ∷ xs) (suc i) d lt = ap (λ l. x ∷ l) (first_taken xs i d (omega (arith, lt)))

pub next_taken : {A : Type 0} (xs : List A) (i : ℕ) (d : A) → i < length xs → take (i + 1) xs ≡ take i xs ++ get_or xs i d ∷ []
next_taken xs i d lt = rw add-one (first_taken xs i d lt)

next_dropped : {A : Type 0} (xs : List A) (i : ℕ) (d : A) → i < length xs → drop i xs ≡ get_or xs i d ∷ drop (i + 1) xs
next_dropped xs i d lt = rw add-one (drop-cons xs i d lt)

at_seam : {A : Type 0} (xs : List A) (y d : A) (ys : List A) → get_or (xs ++ y ∷ ys) (length xs) d ≡ y
at_seam [] y d ys = refl
at_seam (x ∷ xs) y d ys = at_seam xs y d ys

-- one is left
pub some_left : {A B : Type 0} (f : A → B) (xs : List A) (i : ℕ) → i < length xs → 0 < length (map f (drop i xs))
some_left f [] i below = let z : ⊥ = omega (arith, below) in absurd z
some_left f (x ∷ xs) zero below = omega arith
some_left f (x ∷ xs) (suc i) below = some_left f xs i (omega (arith, below))

-- The first so many of some elements were changed so, and the others are as they were.
pub record SoFar {A B : Type 0} (f : A → B) (P : B → B → Type 0) (olds now : List A) (i : ℕ) : Type 0 where
  pub news : List A
  pub long : length news ≡ i
  pub is : now ≡ news ++ drop i olds
  pub pairs : InPairs P (map f (take i olds)) (map f news)

module _ {A B : Type 0} (f : A → B) (P : B → B → Type 0) (olds : List A) where
  pub none_so_far : SoFar f P olds olds 0
  none_so_far = record { news = []; long = refl; is = refl; pairs = tt }

  module _ (now : List A) (i : ℕ) (s : SoFar f P olds now i) where
    pub all_so_far : length olds ≤ i → InPairs P (map f olds) (map f now)
    all_so_far over =
        subst (λ xs. InPairs P (map f olds) (map f xs)) (sym (s.is ∙ ap (λ l. s.news ++ l) (drop_all i olds over) ∙ append-nil s.news))
        (subst (λ xs. InPairs P (map f xs) (map f s.news)) (take_all i olds over) s.pairs)

    module _ (d : A) (lt : i < length olds) where
      split : now ≡ s.news ++ get_or olds i d ∷ drop (i + 1) olds
      split = s.is ∙ ap (λ l. s.news ++ l) (next_dropped olds i d lt)

      pub as_it_was : slice_index_or now i d ≡ slice_index_or olds i d
      as_it_was = ap (λ l. get_or l i d) split ∙ ap (λ n. get_or (s.news ++ get_or olds i d ∷ drop (i + 1) olds) n d) (sym s.long) ∙ at_seam s.news (get_or olds i d) d (drop (i + 1) olds)

      pub one_so_far : (y : A) → P (f (slice_index_or olds i d)) (f y) → SoFar f P olds (slice_set now i y) (i + 1)
      one_so_far y one = record {
        news = s.news ++ y ∷ [];
        long = length-append s.news (y ∷ []) ∙ ap (λ n. n + 1) s.long;
        is = ap (λ l. set l i y) split ∙ ap (λ n. set (s.news ++ get_or olds i d ∷ drop (i + 1) olds) n y) (sym s.long) ∙ set-append_seam s.news (get_or olds i d) (drop (i + 1) olds) y ∙ sym (append_assoc s.news (y ∷ []) (drop (i + 1) olds));
        pairs = subst (λ xs. InPairs P xs (map f (s.news ++ y ∷ []))) (sym (ap (map f) (next_taken olds i d lt) ∙ map-append f (take i olds) (get_or olds i d ∷ [])))
            (subst (InPairs P (map f (take i olds) ++ f (get_or olds i d) ∷ [])) (sym (map-append f s.news (y ∷ []))) (pairs_after P (map f (take i olds)) (map f s.news) (f (get_or olds i d)) (f y) s.pairs one));
      }
