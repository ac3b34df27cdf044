-- A draw as far as it has come.
use Rattle.std.specs.Prelude.{◌≤◌, ℕ, List, [], ◌∷◌, ◌++◌, length}
use Rattle.std.specs.List.{IsDistinct}
use Rattle.qc_event.specs.History.{Name, same}
use Rattle.qc_desk.specs.declared.store.Store.{Ghosts}
use Rattle.qc_group.specs.declared.waiting.Waiting.{Waiting}
use Rattle.qc_group.specs.Offers.{AreDivided, StayFor, tops}

-- So many at most of these offers were drawn beside one's own top, and those that are left stay.
pub record IsDraw {N : Type 0} {g : Ghosts N} (own : Name) (most : ℕ) (offers drawn left : List (Waiting N g)) : Type 0 where
  pub divided : AreDivided offers drawn left
  pub few : length drawn ≤ most
  pub others : IsDistinct same (own ∷ tops drawn)
  pub stay : StayFor own most drawn left

-- one offer more is put where it belongs, whatever was before
abbrev pub PlacesOneMore : {N : Type 0} {g : Ghosts N} → Name → ℕ → Waiting N g → List (Waiting N g) → List (Waiting N g) → List (Waiting N g) → List (Waiting N g) → Type 0
PlacesOneMore {N} {g} own most item drawn left drawn' left' =
    (offers : List (Waiting N g)) → IsDraw own most offers drawn left → IsDraw own most (offers ++ item ∷ []) drawn' left'
