-- Histories that keep the order of a tree of names, whatever else their rules ask: what every kind of legal
-- history has in common.
use Rattle.std.proofs.Common.{◌≡◌, ℕ, ◌+◌, ◌<◌, ◌⊎◌, true, [], ◌∷◌, ◌++◌, length}
use Rattle.std.specs.Prelude.{None, IsTrue, not}
use Rattle.qc_names.specs.Name as name
use Rattle.qc_event.specs.declared.event.Event.{Event}
use Rattle.qc_event.specs.declared.event.Event.TheVariants as event
use Rattle.qc_event.specs.declared.event.How.{How}
use Rattle.qc_event.specs.declared.event.How.TheVariants.{Commit, Abort}
use Rattle.qc_event.specs.declared.event.Kind.{Kind}
use Rattle.qc_event.specs.declared.event.Kind.TheVariants as kind
use Rattle.qc_event.specs.History.{Past, Name, Begun, start, is_ready, IsOpen, children}
use Rattle.qc_event.specs.Dead.{dead}
use Rattle.qc_event.specs.Standing.{IsUser, IsManager, Started, open_child, IsGoing}

-- under whom a kind stands: an access under a manager, all else under a user transaction
abbrev pub Belongs : Begun → Kind → Type 0
Belongs parent kind.Access = IsManager parent.kind
Belongs parent _ = IsUser parent.kind

-- a top that is new
pub record IsNewTop (past : Past) (number : ℕ) (k : Kind) : Type 0 where
  pub user : IsUser k
  pub fresh : start past (number ∷ []) ≡ None

-- the next child of a parent that is going on and not ready
pub record IsNextChild (past : Past) (n : Name) (k : Kind) : Type 0 where
  pub parent_going : IsGoing past (name.front n)
  pub parent_not_ready : IsTrue (not (is_ready past (name.front n)))
  pub next_child : n ≡ name.front n ++ (length (children past (name.front n)) + 1) ∷ []
  pub belongs : Started past (name.front n) (λ p. Belongs p k)

abbrev pub Begins : Past → Name → Kind → Type 0
Begins past [] k = ⊥
Begins past (number ∷ []) k = IsNewTop past number k
Begins past n k = IsNextChild past n k

-- a top that becomes ready
pub record BecomesReady (past : Past) (top : Name) : Type 0 where
  pub is_top : length top ≡ 1
  pub is_open : IsOpen past top
  pub not_ready : IsTrue (not (is_ready past top))
  pub children_ended : open_child past top ≡ None

-- who commits is open, has no open child or is ready, and below a top is not dead
pub record Commits (past : Past) (n : Name) : Type 0 where
  pub is_open : IsOpen past n
  pub closed : (open_child past n ≡ None) ⊎ (is_ready past n ≡ true)
  pub alive : 1 < length n → dead past n ≡ None

abbrev pub Ends : Past → Name → How → Type 0
Ends past n (Commit given) = Commits past n
Ends past n (Abort c) = IsOpen past n

-- the event keeps the order
abbrev pub KeepsOrder : Past → Event → Type 0
KeepsOrder past (event.Start n k) = Begins past n k
KeepsOrder past (event.End n how) = Ends past n how
KeepsOrder past (event.Ready top) = BecomesReady past top
KeepsOrder past _ = Unit {0}

-- A history is orderly where each event keeps the order after those before it.
abbrev pub Orderly : Past → Type 0
Orderly [] = Unit {0}
Orderly (e ∷ past) = Orderly past × KeepsOrder past e.event
