-- Lists with more at their end: the last item, and the items by their places.
use Rattle.std.proofs.Common.{◌≡◌, ℕ, zero, suc, List, [], ◌∷◌, ◌++◌, length, refl, arith}
use Rattle.std.specs.Prelude.{Option, Some, slice_get}
use Rattle.std.specs.List.{last_or}

pub last_push : {X : Type 0} (o : Option X) (xs : List X) (x : X) → last_or o (xs ++ x ∷ []) ≡ Some x
last_push o [] x = refl
last_push o (y ∷ ys) x = last_push (Some y) ys x

-- an item stands at its place in a longer list
pub get_first : {X : Type 0} (xs ys : List X) (i : ℕ) (x : X) → slice_get xs i ≡ Some x → slice_get (xs ++ ys) i ≡ Some x
get_first [] ys i x h = absurd cc
get_first (y ∷ xs) ys zero x h = h
get_first (y ∷ xs) ys (suc i) x h = get_first xs ys i x h

pub get_last : {X : Type 0} (xs : List X) (y : X) (i : ℕ) → i ≡ length xs → slice_get (xs ++ y ∷ []) i ≡ Some y
get_last [] y zero h = refl
get_last [] y (suc i) h = absurd (omega arith)
get_last (x ∷ xs) y zero h = absurd (omega arith)
get_last (x ∷ xs) y (suc i) h = get_last xs y i (omega arith)
