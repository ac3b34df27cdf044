-- What a manager's accesses may ask, when one is given up, and who may be unable to serve.
use Rattle.std.specs.Prelude.{ℕ, ◌≡◌, ◌⊎◌, Bool, true, false, ◌||◌, not, IsTrue, if◌then◌else◌, length, Option, None, Some, MatchOption}
use Rattle.std.specs.List.{list_any}
use Rattle.std.specs.Option.{option_map_or}
use Rattle.qc_names.specs.Name as name
use Rattle.qc_event.specs.Base.{Setting}
use Rattle.qc_event.specs.declared.event.Ask.{Ask}
use Rattle.qc_event.specs.declared.event.Entry.{Entry}
use Rattle.qc_event.specs.declared.event.Event.{Event}
use Rattle.qc_event.specs.declared.event.Event.TheVariants as event
use Rattle.qc_event.specs.declared.event.Kind.{Kind}
use Rattle.qc_event.specs.declared.event.Kind.TheVariants as kind
use Rattle.qc_event.specs.declared.event.Why.{Why}
use Rattle.qc_event.specs.declared.event.Why.TheVariants.{Lost, Late, Down, Full, Strange}
use Rattle.qc_event.specs.History.{Past, Name, same, asked, gone, is_ready, IsOpen}
use Rattle.qc_event.specs.Manager.{Stage, next_copy, waiting, record_of, AtStage}
use Rattle.qc_event.specs.Seats.{ledger_seat, copy_seat, is_client}
use Rattle.qc_event.specs.Standing.{Started, StartedUnder, IsAccessUnder, AskedUnder, IsGoing}

-- REQUESTS

-- what a manager of a kind asks next at a stage: its next copy, for its record, the stage's operation
pub record IsNextAsk (past : Past) (m : Name) (k : Kind) (ask : Ask) (s : Stage) : Type 0 where
  pub next : next_copy past m s ≡ Some ask.copy
  pub same_record : ask.rec ≡ record_of k
  pub same_op : ask.op ≡ s.op

-- An access asks once, under the seat at which it and its manager started, what its manager asks next,
-- and only where the manager waits for no other access.
pub record MayAsk (setting : Setting) (past : Past) (seat : ℕ) (ask : Ask) : Type 0 where
  pub by_client : IsTrue (is_client seat)
  pub started : IsAccessUnder past seat ask.access
  pub manager_started : StartedUnder past seat (name.front ask.access)
  pub going : IsGoing past ask.access
  pub not_asked : asked past ask.access ≡ None
  pub nothing_open : waiting past (name.front ask.access) ≡ None
  pub of_stage : Started past (name.front ask.access) (λ m. AtStage setting past (name.front ask.access) m.kind (IsNextAsk past (name.front ask.access) m.kind ask))

-- UNABLE

-- a copy is down, its journal is full, or it is in a strange state
abbrev pub is_fault : Why → Bool
is_fault Lost = false
is_fault Late = false
is_fault _ = true

-- the ledger is down, or its journal is full
abbrev pub is_ledger_fault : Why → Bool
is_ledger_fault Down = true
is_ledger_fault Full = true
is_ledger_fault _ = false

-- A copy may be unable to serve an access that asked it.
pub record IsUnableCopy (past : Past) (seat : ℕ) (n : Name) (why : Why) : Type 0 where
  pub asked_there : MatchOption (asked past n) ⊥ (λ a. seat ≡ copy_seat a.ask.copy)
  pub fault : IsTrue (is_fault why)

-- The ledger may be unable to log a top that is ready.
pub record IsUnableLedger (past : Past) (seat : ℕ) (n : Name) (why : Why) : Type 0 where
  pub ledger : seat ≡ ledger_seat
  pub is_top : length n ≡ 1
  pub ready : IsTrue (is_ready past n)
  pub fault : IsTrue (is_ledger_fault why)

-- who may be unable: a copy or the ledger
abbrev pub MayBeUnable : Past → ℕ → Name → Why → Type 0
MayBeUnable past seat n why = IsUnableCopy past seat n why ⊎ IsUnableLedger past seat n why

-- GIVING UP

-- whether two reasons are the same
abbrev pub is_why : Why → Why → Bool
is_why Lost Lost = true
is_why Late Late = true
is_why Down Down = true
is_why Full Full = true
is_why Strange Strange = true
is_why _ _ = false

-- why someone was unable to serve a name, where the event says so
abbrev pub unable_in : Name → Event → Option Why
unable_in n (event.Unable m why) = if same m n then Some why else None
unable_in n _ = None

-- whether someone was unable to serve a name, for a reason
abbrev pub was_unable : Past → Name → Why → Bool
was_unable past n why = list_any (λ (e : Entry). option_map_or (is_why why) (unable_in n e.event) false) past

-- An access that asked is given up once, under its own seat, while it is open. That its copy was unable
-- wants the copy's own word.
pub record MayGiveUp (past : Past) (seat : ℕ) (access : Name) (why : Why) : Type 0 where
  pub by_client : IsTrue (is_client seat)
  pub asked_here : AskedUnder past seat access
  pub is_open : IsOpen past access
  pub first_time : gone past access ≡ None
  pub told : IsTrue (not (is_fault why) || was_unable past access why)
