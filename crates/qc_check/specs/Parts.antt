-- Parts of the rules of a legal history, for the functions that check one part each.
use Rattle.std.specs.Prelude.{ℕ, ◌≡◌, IsTrue, length, None, MatchOption}
use Rattle.qc_names.specs.Name as name
use Rattle.qc_event.specs.declared.event.Ask.{Ask}
use Rattle.qc_event.specs.declared.event.Grant.{Grant}
use Rattle.qc_event.specs.Base.{Setting}
use Rattle.qc_event.specs.Grants.{Sets}
use Rattle.qc_event.specs.History.{Past, Name, Begun, asked, granted}
use Rattle.qc_event.specs.Manager.{waiting}
use Rattle.qc_event.specs.Seats.{copy_seat, is_client}
use Rattle.qc_event.specs.Standing.{open_child, StartedUnder, IsAccessUnder, IsGoing}

-- An access may ask something: once, under the seat at which it and its manager started, and only where
-- the manager waits for no other access.
pub record IsFreeToAsk (past : Past) (seat : ℕ) (ask : Ask) : Type 0 where
  pub by_client : IsTrue (is_client seat)
  pub started : IsAccessUnder past seat ask.access
  pub manager_started : StartedUnder past seat (name.front ask.access)
  pub going : IsGoing past ask.access
  pub not_asked : asked past ask.access ≡ None
  pub nothing_open : waiting past (name.front ask.access) ≡ None

-- A manager may commit under its own seat where it goes on and its children have ended, if it is complete.
pub record IsFreeToCommit (past : Past) (seat : ℕ) (n : Name) (m : Begun) : Type 0 where
  pub by_client : IsTrue (is_client seat)
  pub own_seat : seat ≡ m.seat
  pub going : IsGoing past n
  pub children_ended : open_child past n ≡ None

-- the request for which a grant is
abbrev pub ask_for : ℕ → Grant → Ask
ask_for copy g = record { access = g.access; copy = copy; rec = g.rec; op = g.op }

-- an access asked just this
abbrev pub WasAskedFor : Past → Ask → Type 0
WasAskedFor past ask = MatchOption (asked past ask.access) ⊥ (λ a. a.ask ≡ ask)

-- A copy grants, once, what was asked of it, with a tuple that its operation may leave.
pub record IsDue (setting : Setting) (past : Past) (seat copy : ℕ) (g : Grant) : Type 0 where
  pub by_copy : seat ≡ copy_seat copy
  pub request : WasAskedFor past (ask_for copy g)
  pub first_time : granted past g.access ≡ None
  pub sets : Sets g.op g.tuple
  pub for_copies : length g.tuple.config.votes ≡ length setting.base
