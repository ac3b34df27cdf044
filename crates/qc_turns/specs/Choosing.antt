-- Who may be chosen.
use Rattle.std.specs.Prelude.{ℕ, ◌≡◌, All, List, Some, slice_get}
use Rattle.qc_turns.specs.declared.place.Place.TheVariants as place
use Rattle.qc_turns.specs.declared.row.Row.{Row}

-- One who waits stands at this place of the rows.
pub record WaitsAt (rows : List Row) (at : ℕ) : Type 0 where
  pub row : Row
  pub stands : slice_get rows at ≡ Some row
  pub waits : row.place ≡ place.Waiting

-- no one of these is to come
abbrev pub AllCame : List Row → Type 0
AllCame rows = All (λ row. row.place ≡ place.Coming → ⊥) rows

-- no one of these waits
abbrev pub NoneWaits : List Row → Type 0
NoneWaits rows = All (λ row. row.place ≡ place.Waiting → ⊥) rows
