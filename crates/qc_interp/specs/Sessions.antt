-- What is of a session in a history: its tops, its part, its seats, and its messages.
use Rattle.std.specs.Prelude.{ℕ, ◌≡◌, ◌==◌, Bool, true, false, ◌&&◌, ◌||◌, not, if◌then◌else◌, IsTrue, List, [], ◌∷◌, filter, Option, None, Some, is_some}
use Rattle.std.specs.List.{list_all, list_any}
use Rattle.std.specs.Option.{option_map_or}
use Rattle.qc_names.specs.Name as name
use Rattle.qc_event.specs.declared.event.Entry.{Entry}
use Rattle.qc_event.specs.declared.event.Event.{Event}
use Rattle.qc_event.specs.declared.event.Event.TheVariants as event
use Rattle.qc_event.specs.declared.event.Kind.{Kind}
use Rattle.qc_event.specs.declared.event.Kind.TheVariants as kind
use Rattle.qc_event.specs.History.{Past, Name, every, end, is_ready}
use Rattle.qc_event.specs.Seats.{is_client}
use Rattle.qc_event.specs.Standing.{Started}
use Rattle.qc_net.specs.Messages.{Net, meets_fates}
use Rattle.qc_script.specs.Calls.{is_access, is_over}
use Rattle.qc_script.specs.Client.{about}
use Rattle.qc_script.specs.Numbers.{each}
use Rattle.qc_interp.specs.Turns.{begun_in, takes_turn}

-- WHAT IS OF A SESSION

abbrev pub top_by : ℕ → Name → Kind → Option Name
top_by s (number ∷ []) (kind.User of body) = if of == s then Some (number ∷ []) else None
top_by s _ k = None

-- the top of a session, where the event starts one
abbrev pub top_in : ℕ → Event → Option Name
top_in s (event.Start n k) = top_by s n k
top_in s _ = None

-- the tops of a session, in order of Start
abbrev pub tops_of : ℕ → Past → List Name
tops_of s past = every (λ e. top_in s e.event) past

-- whether a client's entry is about a name at or below one of these tops
abbrev pub is_of : List Name → Entry → Bool
is_of tops e = is_client e.seat && option_map_or (λ n. list_any (λ t. name.is_ancestor t n) tops) (about e.event) false

-- What clients entered of the transactions, managers and accesses of a session: their starts, ends and marks, and which
-- are ready. The commits of tops are not among it.
abbrev pub part_of : ℕ → Past → Past
part_of s past = filter (is_of (tops_of s past)) past

-- TOPS, IN THE WHOLE HISTORY

-- A top of a session starts once each earlier one has ended, or was unable to be logged.
abbrev pub after_others : ℕ → Entry → Past → Bool
after_others s e past = option_map_or (λ t. list_all (is_over past) (tops_of s past)) (top_in s e.event) true

-- A session runs in turn: whoever starts, marks, is ready or ends does so while each user transaction and manager of the
-- session that is not done is an ancestor of who acts, or in another branch; its tops and its marks keep their seats; and its
-- tops start one after another.
pub record RunsInTurn (s : ℕ) (past : Past) : Type 0 where
  pub turns : IsTrue (each takes_turn (part_of s past))
  pub in_order : IsTrue (each (after_others s) past)

-- SEATS

abbrev pub session_by : Name → Kind → Option ℕ
session_by (number ∷ []) (kind.User s body) = Some s
session_by _ k = None

-- the session of the top that an event starts
abbrev pub session_in : Event → Option ℕ
session_in (event.Start n k) = session_by n k
session_in _ = None

-- whether two entries do not start, under one seat, tops of two sessions
abbrev pub are_apart : Entry → Entry → Bool
are_apart e f = not (e.seat == f.seat) || option_map_or (λ s. option_map_or (λ t. s == t) (session_in f.event) true) (session_in e.event) true

-- whether each session has seats of its own
abbrev pub has_own_seats : Past → Bool
has_own_seats past = list_all (λ e. list_all (are_apart e) past) past

-- MESSAGES

-- the seat under which a user transaction or manager starts
abbrev pub seat_in : Entry → Option ℕ
seat_in e = option_map_or (λ n. Some e.seat) (begun_in e.event) None

-- the messages of each seat of a session meet the fates of its link
abbrev pub meets : ℕ → Net → Past → Bool
meets s net past = list_all (λ seat. meets_fates seat net past) (every seat_in (part_of s past))

-- WHO IS SETTLED

-- it has ended, or is a ready top that was unable to be logged
abbrev pub is_settled : Past → Name → Bool
is_settled past n = is_some (end past n) || (is_ready past n && is_over past n)

-- each access whose manager has ended has ended
abbrev pub AccessesEnd : Past → Type 0
AccessesEnd past = (n : Name) → Started past n (λ b. IsTrue (is_access b.kind)) → is_some (end past (name.front n)) ≡ true → is_some (end past n) ≡ true
