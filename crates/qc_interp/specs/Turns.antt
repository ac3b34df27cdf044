-- Who acts, when it is alone, and when it takes its turn.
use Rattle.std.specs.Prelude.{ℕ, ◌+◌, ◌==◌, Bool, true, false, not, ◌&&◌, ◌||◌, if◌then◌else◌, [], ◌∷◌, length, take, Option, None, Some, is_some}
use Rattle.std.specs.List.{list_all}
use Rattle.std.specs.Option.{option_map, option_map_or}
use Rattle.qc_names.specs.Name as name
use Rattle.qc_event.specs.declared.event.Cause.TheVariants.{Asked}
use Rattle.qc_event.specs.declared.event.Entry.{Entry}
use Rattle.qc_event.specs.declared.event.Event.{Event}
use Rattle.qc_event.specs.declared.event.Event.TheVariants as event
use Rattle.qc_event.specs.declared.event.How.TheVariants.{Abort}
use Rattle.qc_event.specs.History.{Past, Name, Begun, every, start, end, is_ready, children}
use Rattle.qc_script.specs.Calls.{is_access}

-- the user transaction or manager that the event starts
abbrev pub begun_in : Event → Option Name
begun_in (event.Start n k) = if is_access k then None else Some n
begun_in _ = None

-- who acts: who asked for an abort, and else who starts, marks, is ready or ends
abbrev pub acts : Event → Option Name
acts (event.Start n k) = if is_access k then None else Some n
acts (event.Mark n session) = Some n
acts (event.Ready n) = Some n
acts (event.End n (Abort (Asked by))) = Some by
acts (event.End n how) = Some n
acts _ = None

-- it has ended, or is a ready top
abbrev pub is_done : Past → Name → Bool
is_done past n = is_some (end past n) || is_ready past n

-- whether each user transaction and manager that is not done is an ancestor of who acts
abbrev pub is_alone : Past → Name → Bool
is_alone past n = list_all (λ m. is_done past m || name.is_ancestor m n) (every (λ e. begun_in e.event) past)

-- SEATS

-- the seat under which a name was started
abbrev pub seat_of : Past → Name → Option ℕ
seat_of past n = option_map (λ (b : Begun). b.seat) (start past n)

-- whether a name was started under a seat
abbrev pub is_under : Past → ℕ → Name → Bool
is_under past seat n = option_map_or (λ s. s == seat) (seat_of past n) false

-- whether two names were started under the same seat
abbrev pub is_beside : Past → Name → Name → Bool
is_beside past a b = option_map_or (λ seat. is_under past seat b) (seat_of past a) false

-- A top starts under the seat of each earlier one, and a mark is made under the seat of who makes it.
abbrev pub seat_for : Past → ℕ → Event → Bool
seat_for past seat (event.Start (number ∷ []) k) = list_all (is_under past seat) (children past [])
seat_for past seat (event.Mark n session) = is_under past seat n
seat_for past seat _ = true

abbrev pub keeps_seat : Entry → Past → Bool
keeps_seat e past = seat_for past e.seat e.event

-- BRANCHES

-- whether both are there, and not the same
abbrev pub differ : Option ℕ → Option ℕ → Bool
differ (Some a) (Some b) = not (a == b)
differ _ _ = false

abbrev pub all_differ : Option ℕ → Option ℕ → Option ℕ → Bool
all_differ a b c = differ a b && (differ a c && differ b c)

-- the child of a name at or above another that is below it
abbrev pub child_above : Name → Name → Name
child_above p n = take (length p + 1) n

-- Whether two names are in different branches: where they part, two children of one parent were started under seats that
-- differ from each other, and from the parent's.
abbrev pub are_apart : Past → Name → Name → Bool
are_apart past m n =
    all_differ (seat_of past (name.meet m n)) (seat_of past (child_above (name.meet m n) m)) (seat_of past (child_above (name.meet m n) n))

-- TURNS

-- whether each that is not done is an ancestor of who acts, or apart from it
abbrev pub has_turn : Entry → Past → Name → Bool
has_turn e past n = list_all (λ m. is_done past m || (name.is_ancestor m n || are_apart (e ∷ past) m n)) (every (λ x. begun_in x.event) past)

-- Whoever acts does so while each that is not done is an ancestor of it, or apart from it: in another branch. Tops and marks
-- keep their seats.
abbrev pub takes_turn : Entry → Past → Bool
takes_turn e past = keeps_seat e past && option_map_or (has_turn e past) (acts e.event) true
