-- Tests: when they are true, and what more a wider test passes.
use Rattle.std.proofs.Common.{◌≡◌, Bool, true, false, List, [], ◌∷◌, ◌++◌, refl, sym, ap, ◌∙◌}
use mathlib.Core.Bool.{true≢false}
use Rattle.std.specs.Prelude.{IsTrue, not, ◌&&◌, ◌||◌, ◌↔◌}
use Rattle.std.specs.List.{list_all, list_any}
use Rattle.std.proofs.lemmas.Bool.{and_parts, and_from, or_right}
use Rattle.std.proofs.lemmas.List.Folds.{list_any-append}

-- two tests are the same where each is true when the other is
pub same_truth : (a b : Bool) → (IsTrue a ↔ IsTrue b) → a ≡ b
same_truth true true h = refl
same_truth false false h = refl
same_truth true false h = let e = h.0 refl in absurd cc
same_truth false true h = let e = h.1 refl in absurd cc

pub or_true : (b : Bool) → (b || true) ≡ true
or_true true = refl
or_true false = refl

pub and_true : (b : Bool) → b ≡ (b && true)
and_true true = refl
and_true false = refl

pub implies : (a b : Bool) → (a ≡ true → b ≡ true) → (not a || b) ≡ true
implies true b h = h refl
implies false b h = refl

pub not_both : (b : Bool) → IsTrue (not b) → b ≡ true → ⊥
not_both true h is = true≢false (sym h)
not_both false h is = true≢false (sym is)

pub or_wider : (a b x y : Bool) → (a ≡ true → x ≡ true) → (b ≡ true → y ≡ true) → (a || b) ≡ true → (x || y) ≡ true
or_wider true b x y f g h = ap (λ z. z || y) (f refl)
or_wider false b x y f g h = or_right x y (g h)

-- what passes a test passes a wider one
pub all_wider : {X : Type 0} (f g : X → Bool) (xs : List X) → ((x : X) → f x ≡ true → g x ≡ true) → list_all f xs ≡ true → list_all g xs ≡ true
all_wider f g [] step h = refl
all_wider f g (x ∷ xs) step h = let parts = and_parts (f x) (list_all f xs) h in and_from (g x) (list_all g xs) (step x parts.0) (all_wider f g xs step parts.1)

pub any_right : {X : Type 0} (f : X → Bool) (xs ys : List X) → list_any f ys ≡ true → list_any f (xs ++ ys) ≡ true
any_right f xs ys h = list_any-append f xs ys ∙ or_right (list_any f xs) (list_any f ys) h
