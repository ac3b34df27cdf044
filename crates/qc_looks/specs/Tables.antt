-- The lock tables of all copies.
use Rattle.std.specs.Prelude.{ℕ, ◌≡◌, List, [], ◌∷◌, length, Option, None, Some, MatchOption, slice_get, slice_index_or}
use Rattle.qc_config.specs.declared.tuple.Tuple.{Tuple}
use Rattle.qc_event.specs.declared.event.Ask.{Ask}
use Rattle.qc_event.specs.declared.event.Entry.{Entry}
use Rattle.qc_event.specs.declared.event.Grant.{Grant}
use Rattle.qc_event.specs.Base.{Setting, IsProper}
use Rattle.qc_event.specs.History.{Past, Name, asked, grants}
use Rattle.qc_event.specs.Legal.{Legal}
use Rattle.qc_moss.specs.Follows.{TableFollows}
use Rattle.qc_moss.specs.Locks.{Table, unheld}
use Rattle.qc_moss.specs.declared.locks.Test.{Test}
use Rattle.qc_moss.specs.declared.locks.Test.TheVariants.{Free, Held}
use Rattle.qc_looks.specs.declared.tables.Tables.{Tables}

-- the access of the first lock in the way
abbrev pub first_of : Test → Option Name
first_of Free = None
first_of (Held first) = Some first

-- A table is that of a copy: it starts with the copy's tuples, and follows the history with the copy's grants.
pub record IsTableOf (base : List (List Tuple)) (past : Past) (copy : ℕ) (table : Table) : Type 0 where
  pub start : table.start ≡ slice_index_or base copy []
  pub follows : TableFollows past (grants past copy) table

-- There is a table for each copy.
pub record AreTablesOf (base : List (List Tuple)) (past : Past) (tables : List Table) : Type 0 where
  pub as_many : length tables ≡ length base
  pub each : (copy : ℕ) (table : Table) → slice_get tables copy ≡ Some table → IsTableOf base past copy table

abbrev pub AreTables : List (List Tuple) → Tables → Past → Type 0
AreTables base tables past = AreTablesOf base past tables.copies.items

-- they are those of a legal history over a proper setting
abbrev pub AreProper : Tables → Past → Type 0
AreProper tables past = (setting : Setting) × IsProper setting × Legal setting past × AreTables setting.base tables past

-- this was asked in a legal history of which they are the tables
abbrev pub CanAsk : Tables → Past → Ask → Type 0
CanAsk tables past ask = AreProper tables past × MatchOption (asked past ask.access) ⊥ (λ a. a.ask ≡ ask)

-- the request for which a grant is
abbrev pub ask_for : ℕ → Grant → Ask
ask_for copy g = record { access = g.access; copy = copy; rec = g.rec; op = g.op }

-- the entry may follow a history of which they are the tables
abbrev pub CanGrow : Tables → Entry → Type 0
CanGrow tables e = (past : Past) × (setting : Setting) × IsProper setting × Legal setting (e ∷ past) × AreTables setting.base tables past

-- what were the tables of a history are those of it with the entry
abbrev pub Grows : Tables → Tables → Entry → Type 0
Grows old new e = (setting : Setting) (past : Past) → IsProper setting → Legal setting (e ∷ past) → AreTables setting.base old past → AreTables setting.base new (e ∷ past)

-- so many first copies have tables without locks
pub record StartSo (base : List (List Tuple)) (many : ℕ) (tables : List Table) : Type 0 where
  pub as_many : length tables ≡ many
  pub each : (copy : ℕ) (table : Table) → slice_get tables copy ≡ Some table → table ≡ unheld (slice_index_or base copy [])
