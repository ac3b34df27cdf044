-- Lists that are joined and parted: what holds of each element, and what is mapped and taken.
use Rattle.std.proofs.Common.{◌≡◌, ℕ, List, [], ◌∷◌, ◌++◌, length, map, take, refl, sym, ap, ◌∙◌}
use Rattle.std.specs.List.{AllByRecursion}

module _ {A : Type 0} where
  pub all_join : (P : A → Type 0) (xs ys : List A) → AllByRecursion P xs → AllByRecursion P ys → AllByRecursion P (xs ++ ys)
  all_join P [] ys all more = more
  all_join P (x ∷ xs) ys all more = (all.0, all_join P xs ys all.1 more)

  pub all_parts : (P : A → Type 0) (xs ys : List A) → AllByRecursion P (xs ++ ys) → AllByRecursion P xs × AllByRecursion P ys
  all_parts P [] ys h = (tt, h)
  all_parts P (x ∷ xs) ys h = let further = all_parts P xs ys h.1 in ((h.0, further.0), further.1)

  -- the front, and what it implies
  pub all_front : (P Q : A → Type 0) (xs ys : List A) → ((x : A) → P x → Q x) → AllByRecursion P (xs ++ ys) → AllByRecursion Q xs
  all_front P Q [] ys step h = tt
  all_front P Q (x ∷ xs) ys step h = (step x h.0, all_front P Q xs ys step h.1)

  -- one in the midst
  pub all_last : (P : A → Type 0) (xs : List A) (t : A) (ys : List A) → AllByRecursion P (xs ++ t ∷ ys) → P t
  all_last P xs t ys h = (all_parts P xs (t ∷ ys) h).1.0

  kept_front : (xs ys : List A) → take (length xs) (xs ++ ys) ≡ xs
  kept_front [] ys = refl
  kept_front (x ∷ xs) ys = ap (λ l. x ∷ l) (kept_front xs ys)

  pub kept_whole : (n : ℕ) (xs ys : List A) → length xs ≡ n → take n (xs ++ ys) ≡ xs
  kept_whole n xs ys long = ap (λ k. take k (xs ++ ys)) (sym long) ∙ kept_front xs ys

pub map_twice : {A B C : Type 0} (f : B → C) (g : A → B) (xs : List A) → map f (map g xs) ≡ map (λ x. f (g x)) xs
map_twice f g [] = refl
map_twice f g (x ∷ xs) = ap (λ l. f (g x) ∷ l) (map_twice f g xs)
