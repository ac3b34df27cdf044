-- Chains: the entries of a history with one key, each with its place and that of the one before it.
use Rattle.std.specs.Prelude.{ℕ, ◌≡◌, ◌+◌, ◌==◌, Bool, false, if◌then◌else◌, List, [], ◌∷◌, length, Option, Some, slice_index}
use Rattle.std.specs.Option.{option_map_or}
use Rattle.qc_event.specs.declared.event.Event.{Event}
use Rattle.qc_event.specs.History.{Past}

-- whether this is an event's key
abbrev pub is_key : ℕ → Option ℕ → Bool
is_key k key = option_map_or (λ j. j == k) key false

-- one more than the place of the last entry with a key, or 0
abbrev pub last_of : (Event → Option ℕ) → ℕ → Past → ℕ
last_of key k [] = 0
last_of key k (e ∷ past) = if is_key k (key e.event) then length past + 1 else last_of key k past

-- beside each entry that has a key stands what was the last of it before the entry
abbrev pub AreLinked : (Event → Option ℕ) → Past → List ℕ → Type 0
AreLinked key [] xs = Unit {0}
AreLinked key (e ∷ past) xs = AreLinked key past xs × ((k : ℕ) → key e.event ≡ Some k → slice_index xs (length past) ≡ last_of key k past)
