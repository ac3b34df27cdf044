-- Where names and entries stand in a history.
use Rattle.std.specs.Prelude.{ℕ, ◌≡◌, ◌+◌, ◌<◌, List, [], ◌∷◌, ◌++◌, length, reverse, Option, None, Some, is_some, slice_get, option_to_list}
use Rattle.std.specs.Option.{option_or, option_map}
use Rattle.qc_event.specs.declared.event.Entry.{Entry}
use Rattle.qc_event.specs.declared.event.Event.{Event}
use Rattle.qc_event.specs.declared.event.Event.TheVariants as event
use Rattle.qc_event.specs.History.{Past, Name, earliest, start_in, end_in, ready_in, child_in}
use Rattle.qc_event.specs.Dead.{outcome}
use Rattle.qc_history.specs.Spots.{Spot}

-- A place of the history, the oldest entry being at 0, is where the first answer stands: the entry there gives it,
-- and there is a place just where there is an answer.
pub record IsWhere {Y : Type 0} (f : Entry → Option Y) (past : Past) (place : Option ℕ) : Type 0 where
  pub same : is_some place ≡ is_some (earliest f past)
  pub within : (i : ℕ) → place ≡ Some i → i < length past
  pub there : (i : ℕ) (e : Entry) → place ≡ Some i → slice_get (reverse past) i ≡ Some e → f e ≡ earliest f past

-- one for a start
abbrev pub starts_in : Event → ℕ
starts_in (event.Start n kind) = 1
starts_in _ = 0

-- how many names have started
abbrev pub started : Past → ℕ
started [] = 0
started (e ∷ past) = started past + starts_in e.event

-- how much there was before the first entry that answers
abbrev pub before_first : {Y : Type 0} → (Past → ℕ) → (Entry → Option Y) → Past → Option ℕ
before_first count f [] = None
before_first count f (e ∷ past) = option_or (before_first count f past) (option_map (λ _. count past) (f e))

-- the place of a name among the started names, in order of their starts
abbrev pub place : Past → Name → Option ℕ
place past n = before_first started (λ e. start_in n e.seat e.event) past

-- the places of the children of a name among the started names, in order of their starts
abbrev pub child_places : Past → Name → List ℕ
child_places [] n = []
child_places (e ∷ past) n = child_places past n ++ option_to_list (option_map (λ _. started past) (child_in n e.event))

-- the places of a name's start, of its end and of its ready entry among the entries
abbrev pub start_place : Past → Name → Option ℕ
start_place past n = before_first length (λ e. start_in n e.seat e.event) past

abbrev pub end_place : Past → Name → Option ℕ
end_place past n = before_first length (λ e. end_in n e.event) past

abbrev pub ready_place : Past → Name → Option ℕ
ready_place past n = before_first length (λ e. ready_in n e.event) past

-- what a history says of a name
abbrev pub spot_of : Past → Name → Spot
spot_of past n = record { start = start_place past n; outcome = outcome past n; end = end_place past n; ready = ready_place past n; children = child_places past n }
