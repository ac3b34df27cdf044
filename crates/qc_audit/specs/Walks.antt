-- Lists of what the children of open names did, while a history is gone through whose names are all known.
use Rattle.std.specs.Prelude.{ℕ, ◌≡◌, ◌+◌, List, [], ◌∷◌, ◌++◌, Option, None, Some, Vec, slice_get}
use Rattle.std.specs.declared.alloc.Global.{Global}
use Rattle.std.specs.Option.{option_map, option_map_or}
use Rattle.qc_event.specs.declared.event.Entry.{Entry}
use Rattle.qc_event.specs.declared.event.Event.{Event}
use Rattle.qc_event.specs.declared.event.Event.TheVariants as event
use Rattle.qc_event.specs.declared.event.Kind.TheVariants as kind
use Rattle.qc_event.specs.History.{Past, Name, end}
use Rattle.qc_event.specs.Legal.{Legal}
use Rattle.qc_history.specs.Places.{place}
use Rattle.qc_looks.specs.Indexed.{Known}
use Rattle.qc_serial.specs.declared.event.SerialEvent.{SerialEvent}
use Rattle.qc_serial.specs.Walk.{walk}
use Rattle.qc_audit.specs.declared.walks.Walks.{Walks}

-- THE LISTS

abbrev pub Lists : Type 0
Lists = List (Vec SerialEvent Global)

-- what is listed at a place
abbrev pub listed : Lists → ℕ → List SerialEvent
listed lists i = option_map_or (λ (v : Vec SerialEvent Global). v.items) (slice_get lists i) []

-- a list goes on by events, and the others stay
pub record GoesOn (old new : Lists) (at : ℕ) (events : List SerialEvent) : Type 0 where
  pub here : listed new at ≡ listed old at ++ events
  pub others : (i : ℕ) → (i ≡ at → ⊥) → listed new i ≡ listed old i

-- so it is, while another list is given up
pub record TakesOver (old new : Lists) (own at : ℕ) (events : List SerialEvent) : Type 0 where
  pub here : (at ≡ own → ⊥) → listed new at ≡ listed old at ++ events
  pub others : (i : ℕ) → (i ≡ at → ⊥) → (i ≡ own → ⊥) → listed new i ≡ listed old i

-- NAMES

-- where a name's list stands: the root's first, and behind it those of the started names, in order of their starts
abbrev pub slot : Past → Name → Option ℕ
slot past [] = Some 0
slot past n = option_map (λ i. i + 1) (place past n)

-- a fact holds of the place of a name's list, where the history is legal
abbrev pub AtSlot : Known → Name → (ℕ → Type 0) → Type 0
AtSlot known n fact = Legal known.setting known.past → (at : ℕ) → slot known.past n ≡ Some at → fact at

-- ENTRIES

-- the user transaction that the event starts
abbrev pub started_user : Event → Option Name
started_user (event.Start n (kind.User session body)) = Some n
started_user _ = None

-- Of the whole history a beginning is past. Of the root and of each name that has not ended in it, what its children
-- did is listed at the name's place.
pub record AreWalks (whole past : Past) (lists : Lists) : Type 0 where
  pub each : (n : Name) (i : ℕ) → slot whole n ≡ Some i → end past n ≡ None → listed lists i ≡ walk past n

-- what was so before the next entry is so after it
abbrev pub TakesIn : Known → Entry → Walks → Walks → Type 0
TakesIn known e old new = (later past : Past) → known.past ≡ later ++ e ∷ past → Legal known.setting known.past → AreWalks known.past past old.lists.items → AreWalks known.past (e ∷ past) new.lists.items
