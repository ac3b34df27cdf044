-- What is told of each element of a list stays so while each is held against something, one after another.
use Rattle.std.proofs.Common.{◌≡◌, ℕ, ◌+◌, ◌≤◌, ◌<◌, List, length, map, get_or, take, All, sym, ap, ◌∙◌, subst, arith}
use Rattle.std.proofs.lemmas.List.{get_or-map, length-map, take_all}
use Rattle.std.proofs.lemmas.List.Elements.{All-map, All-more, All-same}

module _ {S Y : Type 0} (told : S → Y) (P : Y → Type 0) (xs first : List S) (i : ℕ) where
  pub one_held : (x : S) → map told xs ≡ map told first → i < length first → x ≡ get_or xs i x → P (told x) → All P (take i (map told first)) → All P (take (i + 1) (map told first))
  one_held x same within at here all =
      let as_many : length xs ≡ length first = sym (length-map xs told) ∙ ap length same ∙ length-map first told in
      let there : told x ≡ get_or (map told first) i (told x) = ap told at ∙ sym (get_or-map told xs i x (told x) (omega (arith, within, as_many))) ∙ ap (λ (l : List Y). get_or l i (told x)) same in
      All-more P (map told first) i (told x) (omega (arith, within, length-map first told)) all (subst P there here)

  pub all_held : length first ≤ i → All P (take i (map told first)) → All P (map told first)
  all_held past all = All-same P (map told first) (take i (map told first)) (sym (take_all i (map told first) (omega (arith, past, length-map first told)))) all

  pub each_held : length first ≤ i → All P (take i (map told first)) → All (λ x. P (told x)) first
  each_held past all k x within =
      subst P (get_or-map told first k x (told x) within) (all_held past all k (told x) (omega (arith, within, length-map first told)))

pub all_again : {S Y : Type 0} (told : S → Y) (P : Y → Type 0) (xs ys : List S) → map told ys ≡ map told xs → All (λ x. P (told x)) xs → All (λ y. P (told y)) ys
all_again told P xs ys same all k d within =
    subst P (get_or-map told ys k d (told d) within) (All-same P (map told ys) (map told xs) same (All-map P told xs all) k (told d) (omega (arith, within, length-map ys told)))
