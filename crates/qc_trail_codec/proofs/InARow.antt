-- Values of a form in a row: one more is written behind those before it, and fits too.
use Rattle.std.proofs.Common.{◌≡◌, ℕ, zero, suc, ◌+◌, ◌<◌, List, [], ◌∷◌, ◌++◌, length, take, get_or, sym, ap, ◌∙◌, subst}
use Rattle.std.specs.Prelude.{Some, flat_map, slice_get}
use Rattle.std.specs.List.{All}
use Rattle.std.proofs.lemmas.List.{flat_map_more, take_more}
use Rattle.std.proofs.lemmas.List.Elements.{All-more}

pub one_more_written : {A : Type 0} (spell : A → List ℕ) (start : List ℕ) (xs : List A) (i : ℕ) (x d : A) (old new : List ℕ) → i < length xs → x ≡ get_or xs i d
    → old ≡ start ++ flat_map spell (take i xs) → new ≡ old ++ spell x → new ≡ start ++ flat_map spell (take (i + 1) xs)
one_more_written spell start xs i x d old new lt item before now =
    now ∙ ap (λ bs. bs ++ spell x) before ∙ flat_map_more spell start (take i xs) x
    ∙ ap (λ ys. start ++ flat_map spell ys) (ap (λ y. take i xs ++ y ∷ []) item ∙ sym (take_more xs i d lt))

pub one_more_fits : {A : Type 0} (P : A → Type 0) (xs : List A) (i : ℕ) (x d : A) → i < length xs → x ≡ get_or xs i d → All P (take i xs) → P x → All P (take (i + 1) xs)
one_more_fits P xs i x d lt item before now = All-more P xs i d lt before (subst P item now)

-- an item that is got stands at its place
pub got : {A : Type 0} (xs : List A) (i : ℕ) (x : A) → slice_get xs i ≡ Some x → x ≡ get_or xs i x
got [] i x is = absurd cc
got (y ∷ xs) zero x is = cc
got (y ∷ xs) (suc i) x is = got xs i x is
