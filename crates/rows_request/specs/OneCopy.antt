-- What the scene of a copy runs over: one record at one copy, which has the one vote.
use Rattle.std.specs.Prelude.{ℕ, ◌≡◌, List, [], ◌∷◌, None, Some, MatchOption}
use Rattle.qc_config.specs.Config.{Voting}
use Rattle.qc_config.specs.Val.{Number}
use Rattle.qc_config.specs.declared.tuple.Tuple.{Tuple}
use Rattle.qc_event.specs.declared.event.Ask.{Ask}
use Rattle.qc_event.specs.declared.event.Kind.TheVariants as kind
use Rattle.qc_event.specs.declared.table.Table.{Table}
use Rattle.qc_event.specs.History.{Past, Name, asked as asked_of, granted, start as start_of}
use Rattle.qc_desk.specs.Consulting.{HasAsked}
use Rattle.qc_desk.specs.Own.{IsOwnAccess}

abbrev pub config : Voting
config = record { votes = 1 ∷ []; read = 1; write = 1 }

abbrev pub first : Tuple
first = record { version = 0; value = Number 0; generation = 0; config = config }

-- the copy's tuples as it starts
abbrev pub start : List Tuple
start = first ∷ []

abbrev pub base : List (List Tuple)
base = start ∷ []

abbrev pub table : Table
table = record { copies = 1; records = record { name = []; start = Number 0; config = config } ∷ [] }

-- A top was started under this seat, and below it stands this request of the record, to the copy, which has not granted
-- it; its access asked under this seat, and is open.
pub record IsRequest (past : Past) (seat : ℕ) (top : Name) (ask : Ask) : Type 0 where
  pub begun : start_of past top ≡ Some (record { seat = seat; kind = kind.User 0 0 })
  pub asked : HasAsked past ask
  pub to_copy : ask.copy ≡ 0
  pub of_record : ask.rec ≡ 0
  pub ungranted : granted past ask.access ≡ None
  pub own : IsOwnAccess past seat ask.access
  pub asked_here : MatchOption (asked_of past ask.access) ⊥ (λ a. a.seat ≡ seat)
