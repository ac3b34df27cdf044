-- The rules on user transactions, and where managers stand below them.
use Rattle.std.specs.Prelude.{ℕ, ◌≡◌, ◌+◌, ◌/◌, ◌%◌, ◌^◌, ◌==◌, Bool, false, ◌&&◌, not, IsTrue, nat_lt, nat_le, [], ◌∷◌, ◌++◌, length, Option, None, Some, MatchOption}
use Rattle.std.specs.List.{list_any}
use Rattle.std.specs.Option.{option_map_or}
use Rattle.qc_names.specs.Name as name
use Rattle.qc_config.specs.Config.{IsLegal}
use Rattle.qc_event.specs.Base.{Setting}
use Rattle.qc_event.specs.declared.event.Answer.{Answer}
use Rattle.qc_event.specs.declared.event.Answer.TheVariants as answer
use Rattle.qc_event.specs.declared.event.Cause.{Cause}
use Rattle.qc_event.specs.declared.event.Cause.TheVariants as cause
use Rattle.qc_event.specs.declared.event.Entry.{Entry}
use Rattle.qc_event.specs.declared.event.Event.{Event}
use Rattle.qc_event.specs.declared.event.Event.TheVariants as event
use Rattle.qc_event.specs.declared.event.How.TheVariants.{Abort}
use Rattle.qc_event.specs.declared.event.Kind.{Kind}
use Rattle.qc_event.specs.declared.event.Kind.TheVariants as kind
use Rattle.qc_event.specs.History.{Past, Name, Begun, start, end, is_ready, IsOpen, is_child, children}
use Rattle.qc_event.specs.Seats.{ledger_seat, is_client}
use Rattle.qc_event.specs.Standing.{IsUser, IsManager, Started, open_child, IsGoing, IsAbort, IsOrphanOf}

-- STARTS

-- A top may start where both halves of its number are at least 1 and it has not started.
pub record MayStartTop (past : Past) (seat number : ℕ) (k : Kind) : Type 0 where
  pub by_client : IsTrue (is_client seat)
  pub user : IsUser k
  pub epoch : IsTrue (nat_le 1 (number / 2 ^ 32))
  pub place : IsTrue (nat_le 1 (number % 2 ^ 32))
  pub fresh : start past (number ∷ []) ≡ None

-- Where a child of a kind may stand, by its parent's start and its own length: user transactions, which
-- nest no deeper than 16, and managers, of a record of the table, stand under user transactions.
abbrev pub StandsUnder : Setting → Begun → ℕ → Kind → Type 0
StandsUnder setting parent depth (kind.User session body) = IsUser parent.kind × IsTrue (nat_le depth 16)
StandsUnder setting parent depth (kind.Read rec) = IsUser parent.kind × IsTrue (nat_lt rec (length setting.firsts))
StandsUnder setting parent depth (kind.Write rec value) = IsUser parent.kind × IsTrue (nat_lt rec (length setting.firsts))
StandsUnder setting parent depth (kind.Reconf rec config) =
    IsUser parent.kind × IsTrue (nat_lt rec (length setting.firsts)) × (length config.votes ≡ length setting.base) × IsLegal config
StandsUnder setting parent depth kind.Access = ⊥

-- Another name may start as the next child of a parent that is going on, and under which it may stand.
pub record MayStartNext (Stands : Begun → Type 0) (past : Past) (seat : ℕ) (n : Name) : Type 0 where
  pub by_client : IsTrue (is_client seat)
  pub parent_going : IsGoing past (name.front n)
  pub parent_not_ready : IsTrue (not (is_ready past (name.front n)))
  pub next_child : n ≡ name.front n ++ (length (children past (name.front n)) + 1) ∷ []
  pub stands : Started past (name.front n) Stands

-- MARKS AND READY

-- A started user transaction may mark a session, whose number is at most 15.
pub record MayMark (past : Past) (seat : ℕ) (by : Name) (session : ℕ) : Type 0 where
  pub by_client : IsTrue (is_client seat)
  pub by_user : Started past by (λ b. IsUser b.kind)
  pub session_small : IsTrue (nat_le session 15)

-- A top may be ready once, open and without an open child.
pub record MayReady (past : Past) (seat : ℕ) (top : Name) : Type 0 where
  pub by_client : IsTrue (is_client seat)
  pub is_top : length top ≡ 1
  pub is_open : IsOpen past top
  pub not_ready : IsTrue (not (is_ready past top))
  pub children_ended : open_child past top ≡ None

-- COMMITS

-- A user transaction below a top commits once its children have ended.
pub record MayCommitUser (past : Past) (seat : ℕ) (n : Name) (given : Answer) : Type 0 where
  pub by_client : IsTrue (is_client seat)
  pub going : IsGoing past n
  pub children_ended : open_child past n ≡ None
  pub nothing : given ≡ answer.Nothing

-- A top commits under the ledger's seat, once it is ready.
pub record MayCommitTop (past : Past) (seat : ℕ) (n : Name) (given : Answer) : Type 0 where
  pub ledger : seat ≡ ledger_seat
  pub is_open : IsOpen past n
  pub ready : IsTrue (is_ready past n)
  pub nothing : given ≡ answer.Nothing

-- a user transaction is a top, or stands below one
abbrev pub MayCommitUserOrTop : Past → ℕ → Name → Answer → Type 0
MayCommitUserOrTop past seat (number ∷ []) given = MayCommitTop past seat (number ∷ []) given
MayCommitUserOrTop past seat n given = MayCommitUser past seat n given

-- ABORTS

-- a manager child of the transaction was aborted with this cause
pub record ChildAborted (past : Past) (n : Name) (c : Cause) : Type 0 where
  pub child : Name
  pub is_one : IsTrue (is_child n child)
  pub manages : Started past child (λ b. IsManager b.kind)
  pub ended : end past child ≡ Some (Abort c)

-- by whom a session is marked, where the event is a mark
abbrev pub mark_of : Event → Option (Name × ℕ)
mark_of (event.Mark by session) = Some (by, session)
mark_of _ = None

-- the number of a name's top
abbrev pub top_number : Name → ℕ
top_number [] = 0
top_number (number ∷ rest) = number

-- whether a mark of a session stands, by a transaction whose top has at least this number
abbrev pub is_marked : Past → ℕ → ℕ → Bool
is_marked past session number = list_any (λ (e : Entry). option_map_or (λ m. (m.1 == session) && nat_le number (top_number m.0)) (mark_of e.event) false) past

-- the causes for which a user transaction may be aborted
abbrev pub UserCause : Past → Name → ℕ → Cause → Type 0
UserCause past n session (cause.Asked by) = Started past by (λ b. IsUser b.kind) × IsTrue (name.is_ancestor n by)
UserCause past n session (cause.Orphan a) = IsOrphanOf past n a
UserCause past n session cause.Killed = IsTrue (is_marked past session (top_number n))
UserCause past n session (cause.Child c) = IsTrue (is_child n c) × Started past c (λ b. IsUser b.kind) × MatchOption (end past c) ⊥ IsAbort
UserCause past n session cause.Missed = ⊥
UserCause past n session c = ChildAborted past n c

-- An abort wants a licence of the cause, and a name that is open and no ready top.
pub record MayAbort (Licence : Type 0) (past : Past) (seat : ℕ) (n : Name) : Type 0 where
  pub by_client : IsTrue (is_client seat)
  pub is_open : IsOpen past n
  pub not_ready : IsTrue (not (is_ready past n))
  pub licensed : Licence
