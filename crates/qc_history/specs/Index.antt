-- The index of a history.
use Rattle.std.specs.Prelude.{ℕ, ◌≡◌, ◌<◌, List, [], ◌∷◌, length, Option, Some, slice_get}
use Rattle.std.specs.Ordering.{nat_cmp}
use Rattle.std.specs.BTreeMap.{is_at}
use Rattle.std.specs.Map.{lookup}
use Rattle.qc_event.specs.History.{Past, Name, children}
use Rattle.qc_history.specs.Spots.{Spot}
use Rattle.qc_history.specs.Places.{started, place, spot_of}

-- An index: the tops with the places of their spots, the spots, and how many entries it stands for.
pub record Shape : Type 0 where
  pub tops : List (ℕ × ℕ)
  pub spots : List Spot
  pub count : ℕ

-- the place of a top's spot
abbrev pub top_at : List (ℕ × ℕ) → ℕ → Option ℕ
top_at tops number = lookup (is_at (nat_cmp number)) tops

-- each top's place is the place of a spot
abbrev pub AreInside : List (ℕ × ℕ) → List Spot → Type 0
AreInside tops spots = (number at : ℕ) → top_at tops number ≡ Some at → at < length spots

-- The index is that of a history: each started name has its spot at its place, and each top is found.
pub record IsIndexOf (past : Past) (index : Shape) : Type 0 where
  pub counted : index.count ≡ length past
  pub as_many : length index.spots ≡ started past
  pub all_tops : length index.tops ≡ length (children past [])
  pub at_place : (n : Name) (i : ℕ) → place past n ≡ Some i → slice_get index.spots i ≡ Some (spot_of past n)
  pub by_number : (number : ℕ) → top_at index.tops number ≡ place past (number ∷ [])

-- an index is that of a history
abbrev pub IsOf : Shape → Past → Type 0
IsOf index past = IsIndexOf past index

-- the index of no entries
abbrev pub no_index : Shape
no_index = record { tops = []; spots = []; count = 0 }
