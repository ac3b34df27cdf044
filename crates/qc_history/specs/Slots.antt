-- Numbers beside the started names of a history.
use Rattle.std.specs.Prelude.{ℕ, ◌≡◌, ◌+◌, ◌<◌, ◌≤◌, List, length, Option, None, Some, slice_index}
use Rattle.qc_event.specs.History.{Past, Name}
use Rattle.qc_history.specs.Places.{started, place}

-- one more than a place, or 0 where there is none
abbrev pub code : Option ℕ → ℕ
code None = 0
code (Some i) = i + 1

-- Each started name's number stands at the name's place, and where no name has its place nothing stands.
pub record IsBeside (number : Past → Name → ℕ) (past : Past) (xs : List ℕ) : Type 0 where
  pub at_place : (n : Name) (i : ℕ) → place past n ≡ Some i → slice_index xs i ≡ number past n
  pub beyond : (i : ℕ) → started past ≤ i → slice_index xs i ≡ 0

-- where there is a name, and it was started, a list reaches as far as its place
abbrev pub Reaches : Past → Option Name → List ℕ → Type 0
Reaches past name xs = (n : Name) (at : ℕ) → name ≡ Some n → place past n ≡ Some at → at < length xs
