-- Lists whose items go by numbers in order.
use Rattle.std.specs.Prelude.{ℕ, ◌+◌, List, [], ◌∷◌}

-- each item has this with its number, where the first has this number
abbrev pub EachFrom : {A : Type 0} → (ℕ → A → Type 0) → ℕ → List A → Type 0
EachFrom P number [] = Unit {0}
EachFrom P number (item ∷ items) = P number item × EachFrom P (number + 1) items

-- two lists are equally long, and the items of each number are so related
abbrev pub PairsFrom : {A B : Type 0} → (ℕ → A → B → Type 0) → ℕ → List A → List B → Type 0
PairsFrom R number [] [] = Unit {0}
PairsFrom R number [] (other ∷ others) = ⊥
PairsFrom R number (item ∷ items) [] = ⊥
PairsFrom R number (item ∷ items) (other ∷ others) = R number item other × PairsFrom R (number + 1) items others
