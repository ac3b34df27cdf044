-- What a client knows by its own entries, and what is asked of them before an entry of its own.
use Rattle.std.specs.Prelude.{ℕ, ◌≡◌, ◌≤◌, ◌+◌, true, IsTrue, length, None, MatchOption}
use Rattle.qc_config.specs.declared.tuple.Tuple.{Tuple}
use Rattle.qc_event.specs.Base.{Setting}
use Rattle.qc_event.specs.declared.event.Answer.{Answer}
use Rattle.qc_event.specs.declared.event.Answer.TheVariants as answer
use Rattle.qc_event.specs.declared.event.Ask.{Ask}
use Rattle.qc_event.specs.declared.event.Cause.{Cause}
use Rattle.qc_event.specs.declared.event.Kind.{Kind}
use Rattle.qc_event.specs.declared.event.Kind.TheVariants as kind
use Rattle.qc_event.specs.Aborts.{Licensed}
use Rattle.qc_event.specs.Commits.{manager_answer}
use Rattle.qc_event.specs.History.{Past, Name, Begun, IsOpen, asked, granted, is_child}
use Rattle.qc_event.specs.Manager.{AtStage, waiting, is_complete, first_for}
use Rattle.qc_event.specs.Requests.{IsNextAsk}
use Rattle.qc_event.specs.Seats.{is_client}
use Rattle.qc_event.specs.Standing.{AskedUnder, IsAccessUnder, IsManager, Started}
use Rattle.qc_event.specs.Starts.{Stands}
use Rattle.qc_desk.specs.declared.view.View.{View}

-- a manager that was started under a seat
abbrev pub IsMine : Past → ℕ → Name → Type 0
IsMine past seat m = Started past m (λ b. IsManager b.kind × (b.seat ≡ seat))

-- By its own entries a client's access may ask this.
pub record MayAskOwn (setting : Setting) (past : Past) (seat : ℕ) (m : Name) (ask : Ask) : Type 0 where
  pub by_client : IsTrue (is_client seat)
  pub child : is_child m ask.access ≡ true
  pub mine : IsMine past seat m
  pub started : IsAccessUnder past seat ask.access
  pub is_open : IsOpen past ask.access
  pub not_asked : asked past ask.access ≡ None
  pub nothing_open : waiting past m ≡ None
  pub of_stage : Started past m (λ b. AtStage setting past m b.kind (IsNextAsk past m b.kind ask))

-- An access that has started and is open, of a manager: both were started under this seat.
pub record IsOwnAccess (past : Past) (seat : ℕ) (n : Name) : Type 0 where
  pub by_client : IsTrue (is_client seat)
  pub manager : Name
  pub child : is_child manager n ≡ true
  pub mine : IsMine past seat manager
  pub started : IsAccessUnder past seat n
  pub is_open : IsOpen past n

-- It asked under this seat, and a grant with this tuple was seen.
pub record MayReplyOwn (past : Past) (seat : ℕ) (n : Name) (tuple : Tuple) : Type 0 where
  pub asked_here : AskedUnder past seat n
  pub reply : MatchOption (granted past n) ⊥ (λ g. g.grant.tuple ≡ tuple)

-- A manager of one's own is complete by what was seen, and this is its answer.
pub record IsComplete (setting : Setting) (past : Past) (seat : ℕ) (n : Name) (given : Answer) (b : Begun) : Type 0 where
  pub own_seat : seat ≡ b.seat
  pub complete : IsTrue (is_complete past (first_for setting b.kind) n b.kind)
  pub answers : given ≡ manager_answer past (first_for setting b.kind) n b.kind

-- who may commit by what was seen: a user transaction below a top, with nothing, and a manager that is complete
abbrev pub CommitsOwn : Setting → Past → ℕ → Name → Answer → Begun → Kind → Type 0
CommitsOwn setting past seat n given b (kind.User session body) = (2 ≤ length n) × (given ≡ answer.Nothing)
CommitsOwn setting past seat n given b kind.Access = ⊥
CommitsOwn setting past seat n given b k = IsComplete setting past seat n given b

-- WHAT A CLIENT MAY DO BY WHAT IT HAS SEEN

-- a name was started, and a child of this kind may stand below it
abbrev pub MayStartOwn : Setting → View → Name → Kind → Type 0
MayStartOwn setting v parent k = Started v.seen parent (λ p. Stands setting v.number p (length parent + 1) k)

-- a name was started, and may commit with this answer
abbrev pub MayCommitOwn : Setting → View → Name → Answer → Type 0
MayCommitOwn setting v n answer = Started v.seen n (λ b. CommitsOwn setting v.seen v.number n answer b b.kind)

-- a name was started, and this cause of its abort is licensed
abbrev pub MayAbortOwn : Setting → View → Name → Cause → Type 0
MayAbortOwn setting v n cause = Started v.seen n (λ b. Licensed setting v.seen v.number n b b.kind cause)
