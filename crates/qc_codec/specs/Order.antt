-- Lists in which each item may stand behind those before it.
use Rattle.std.specs.Prelude.{ℕ, ◌≡◌, List, ◌∷◌, ◌++◌, length}

module _ {A : Type 0} (May : List A → A → Type 0) where
  -- each may stand behind those before it
  abbrev pub EachMay : List A → Type 0
  EachMay items = (before after : List A) (item : A) → items ≡ before ++ item ∷ after → May before item

  -- The first that may not has this index.
  pub record FirstMayNot (index : ℕ) (items : List A) : Type 0 where
    pub before : List A
    pub after : List A
    pub item : A
    pub split : items ≡ before ++ item ∷ after
    pub size : index ≡ length before
    pub order : EachMay before
    pub breaks : May before item → ⊥
