-- The first of a list that passes a test, one after another.
use Rattle.std.proofs.Common.{◌≡◌, ℕ, ◌+◌, ◌≤◌, Bool, true, false, cond, ◌&&◌, ◌||◌, List, [], ◌∷◌, length, drop, refl, sym, ap, ◌∙◌}
use Rattle.std.specs.Prelude.{Option, None, Some, find, filter, slice_get}
use Rattle.std.specs.List.{list_any}
use Rattle.std.proofs.lemmas.List.{drop_more, drop_all}
use Rattle.std.proofs.lemmas.Option.{get_or_from_slice_get, slice_get_within}

module _ {X : Type 0} where
  -- the rest of a list from the place of an element
  pub from_here : (xs : List X) (k : ℕ) (x : X) → slice_get xs k ≡ Some x → drop k xs ≡ x ∷ drop (k + 1) xs
  from_here xs k x at = drop_more xs k x (slice_get_within xs k x at) ∙ ap (λ y. y ∷ drop (k + 1) xs) (get_or_from_slice_get xs k x x at)

  -- what is found among those that pass a first test
  pub find_filter : (p q : X → Bool) (xs : List X) → find q (filter p xs) ≡ find (λ x. p x && q x) xs
  find_filter p q [] = refl
  find_filter p q (x ∷ xs) = by (p x) (find_filter p q xs)
    where
      by : (b : Bool) → find q (filter p xs) ≡ find (λ y. p y && q y) xs → find q (cond b (x ∷ filter p xs) (filter p xs)) ≡ cond (b && q x) (Some x) (find (λ y. p y && q y) xs)
      by true rest = ap (λ r. cond (q x) (Some x) r) rest
      by false rest = rest

  pub any_filter : (p q : X → Bool) (xs : List X) → list_any q (filter p xs) ≡ list_any (λ x. p x && q x) xs
  any_filter p q [] = refl
  any_filter p q (x ∷ xs) = by (p x) (any_filter p q xs)
    where
      by : (b : Bool) → list_any q (filter p xs) ≡ list_any (λ y. p y && q y) xs → list_any q (cond b (x ∷ filter p xs) (filter p xs)) ≡ ((b && q x) || list_any (λ y. p y && q y) xs)
      by true rest = ap (λ r. q x || r) rest
      by false rest = rest

  module _ (t : X → Bool) (xs : List X) (k : ℕ) where
    module _ (x : X) (at : slice_get xs k ≡ Some x) where
      pub passed : find t xs ≡ find t (drop k xs) → t x ≡ false → find t xs ≡ find t (drop (k + 1) xs)
      passed so_far fails = so_far ∙ ap (find t) (from_here xs k x at) ∙ ap (λ b. cond b (Some x) (find t (drop (k + 1) xs))) fails

      pub here : find t xs ≡ find t (drop k xs) → t x ≡ true → Some x ≡ find t xs
      here so_far passes = sym (so_far ∙ ap (find t) (from_here xs k x at) ∙ ap (λ b. cond b (Some x) (find t (drop (k + 1) xs))) passes)

      pub any_passed : list_any t xs ≡ list_any t (drop k xs) → t x ≡ false → list_any t xs ≡ list_any t (drop (k + 1) xs)
      any_passed so_far fails = so_far ∙ ap (list_any t) (from_here xs k x at) ∙ ap (λ b. b || list_any t (drop (k + 1) xs)) fails

      pub any_here : list_any t xs ≡ list_any t (drop k xs) → t x ≡ true → true ≡ list_any t xs
      any_here so_far passes = sym (so_far ∙ ap (list_any t) (from_here xs k x at) ∙ ap (λ b. b || list_any t (drop (k + 1) xs)) passes)

    pub nowhere : find t xs ≡ find t (drop k xs) → length xs ≤ k → None ≡ find t xs
    nowhere so_far past = sym (so_far ∙ ap (find t) (drop_all k xs past))

    pub any_nowhere : list_any t xs ≡ list_any t (drop k xs) → length xs ≤ k → false ≡ list_any t xs
    any_nowhere so_far past = sym (so_far ∙ ap (list_any t) (drop_all k xs past))
