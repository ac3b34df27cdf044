-- What holds of each before a place of a list and of each behind it holds of all.
use Rattle.std.proofs.Common.{ℕ, ◌≡◌, ◌++◌, List, take, drop, subst, sym, ◌∙◌}
use Rattle.std.specs.Prelude.{All}
use Rattle.std.proofs.lemmas.List.{take-append-drop}
use Rattle.std.proofs.lemmas.List.Elements.{All-append}

pub all_of_both : {X : Type 0} (P : X → Type 0) (at : ℕ) (xs front back : List X) → front ≡ take at xs → back ≡ drop at xs → All P front → All P back → All P xs
all_of_both P at xs front back front_is back_is of_front of_back =
    subst (All P) (take-append-drop at xs)
    (All-append P (take at xs) (drop at xs) (subst (All P) front_is of_front) (subst (All P) back_is of_back))
