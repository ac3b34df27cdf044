-- How names stand in a history: who may act, and what is open.
use Rattle.std.specs.Prelude.{ℕ, ◌≡◌, not, true, IsTrue, [], ◌∷◌, find, is_none, is_some, Option, None, Some, MatchOption}
use Rattle.qc_names.specs.Name as name
use Rattle.qc_event.specs.declared.event.Ask.{Ask}
use Rattle.qc_event.specs.declared.event.How.{How}
use Rattle.qc_event.specs.declared.event.How.TheVariants.{Commit, Abort}
use Rattle.qc_event.specs.declared.event.Kind.{Kind}
use Rattle.qc_event.specs.declared.event.Kind.TheVariants as kind
use Rattle.qc_event.specs.History.{Past, Name, Begun, same, start, end, asked, IsOpen, children}
use Rattle.qc_event.specs.Dead.{dead, WasDead}

-- the kind is a user transaction
abbrev pub IsUser : Kind → Type 0
IsUser (kind.User session body) = Unit {0}
IsUser _ = ⊥

-- the kind is a manager: it reads, writes or reconfigures
abbrev pub IsManager : Kind → Type 0
IsManager (kind.Read rec) = Unit {0}
IsManager (kind.Write rec value) = Unit {0}
IsManager (kind.Reconf rec config) = Unit {0}
IsManager _ = ⊥

-- a started name of a kind
abbrev pub Started : Past → Name → (Begun → Type 0) → Type 0
Started past n P = MatchOption (start past n) ⊥ P

-- a name that was started under a seat
abbrev pub StartedUnder : Past → ℕ → Name → Type 0
StartedUnder past seat n = Started past n (λ b. b.seat ≡ seat)

-- an access that was started under a seat
abbrev pub IsAccessUnder : Past → ℕ → Name → Type 0
IsAccessUnder past seat n = Started past n (λ a. (a.seat ≡ seat) × (a.kind ≡ kind.Access))

-- an access that asked under a seat
abbrev pub AskedUnder : Past → ℕ → Name → Type 0
AskedUnder past seat n = MatchOption (asked past n) ⊥ (λ a. a.seat ≡ seat)

-- an access asked this under a seat
abbrev pub AsksUnder : Past → ℕ → Ask → Type 0
AsksUnder past seat ask = asked past ask.access ≡ Some (record { seat = seat; ask = ask })

-- the first started child that has no end
abbrev pub open_child : Past → Name → Option Name
open_child past n = find (λ c. is_none (end past c)) (children past n)

-- each top that was started has its end
abbrev pub HasEnded : Past → Type 0
HasEnded past = (number : ℕ) → is_some (start past (number ∷ [])) ≡ true → is_some (end past (number ∷ [])) ≡ true

-- A name may go on where it is open and not dead.
pub record IsGoing (past : Past) (n : Name) : Type 0 where
  pub is_open : IsOpen past n
  pub alive : dead past n ≡ None

-- the end is an abort
abbrev pub IsAbort : How → Type 0
IsAbort (Commit given) = ⊥
IsAbort (Abort c) = Unit {0}

-- An ancestor other than the name itself is aborted.
pub record IsOrphanOf (past : Past) (n a : Name) : Type 0 where
  pub above : IsTrue (name.is_ancestor a n)
  pub not_itself : IsTrue (not (same a n))
  pub aborted : MatchOption (end past a) ⊥ IsAbort

-- It is an orphan of this ancestor, which was its shortest aborted one at some time.
pub record IsNamedOrphan (past : Past) (n a : Name) : Type 0 where
  pub orphan : IsOrphanOf past n a
  pub shortest : WasDead past n a
