-- When the tuples at the copies carry a map of values.
use Rattle.std.specs.Prelude.{ℕ, ◌≡◌, ◌+◌, ◌<◌, ◌==◌, IsTrue, nat_lt, List, [], ◌∷◌, length, map, max, slice_index_or, slice_get, All, None, Some, MatchOption}
use Rattle.std.specs.List.{last_or}
use Rattle.qc_config.specs.Config.{Voting, IsLegal, holds_write, no_config}
use Rattle.qc_config.specs.Val.{Datum}
use Rattle.qc_config.specs.declared.tuple.Tuple.{Tuple}
use Rattle.qc_event.specs.Base.{Setting, first_of, no_tuple}

-- the greatest version of all copies
abbrev pub greatest_version : List Tuple → ℕ
greatest_version [] = 0
greatest_version (t ∷ tuples) = max t.version (greatest_version tuples)

-- the tuple has the value, where it has the version
abbrev pub HasValue : ℕ → Datum → Tuple → Type 0
HasValue version value t = t.version ≡ version → t.value ≡ value

-- the configuration passed on to the next: the copies with a greater generation hold a write quorum of it
abbrev pub IsPassedOn : List Tuple → List Voting → ℕ → Type 0
IsPassedOn tuples configs g = IsTrue (holds_write (slice_index_or configs g no_config) (map (λ (t : Tuple). nat_lt g t.generation) tuples))

-- The copies carry a value of a record, by the list of its configurations from the first to the newest.
pub record Carries (first : Voting) (tuples : List Tuple) (value : Datum) : Type 0 where
  pub configs : List Voting
  pub newest : Voting
  pub begins : slice_get configs 0 ≡ Some first
  pub ends : last_or None configs ≡ Some newest
  pub legal : All IsLegal configs
  pub each_listed : All (λ (t : Tuple). slice_get configs t.generation ≡ Some t.config) tuples
  pub passed_on : (g : ℕ) → g + 1 < length configs → IsPassedOn tuples configs g
  pub version_held : IsTrue (holds_write newest (map (λ (t : Tuple). t.version == greatest_version tuples) tuples))
  pub values : All (HasValue (greatest_version tuples) value) tuples

-- the tuples of a record, one for each copy
abbrev pub column : List (List Tuple) → ℕ → List Tuple
column base rec = map (λ row. slice_index_or row rec no_tuple) base

-- The start tuples carry a map: a value for each record.
abbrev pub IsSound : Setting → List Datum → Type 0
IsSound setting values = (rec : ℕ) → rec < length setting.firsts → MatchOption (slice_get values rec) ⊥ (Carries (first_of setting rec) (column setting.base rec))
