-- Who may commit, with which answer.
use Rattle.std.specs.Prelude.{ℕ, ◌≡◌, ◌+◌, IsTrue, None, MatchOption}
use Rattle.qc_config.specs.Config.{Voting}
use Rattle.qc_event.specs.Base.{Setting}
use Rattle.qc_event.specs.declared.event.Answer.{Answer}
use Rattle.qc_event.specs.declared.event.Answer.TheVariants as answer
use Rattle.qc_event.specs.declared.event.Kind.{Kind}
use Rattle.qc_event.specs.declared.event.Kind.TheVariants as kind
use Rattle.qc_event.specs.History.{Past, Name, Begun, granted}
use Rattle.qc_event.specs.Manager.{newest, greatest, is_complete, first_for}
use Rattle.qc_event.specs.Seats.{is_client}
use Rattle.qc_event.specs.Standing.{open_child, AskedUnder, IsGoing}
use Rattle.qc_event.specs.Users.{MayCommitUserOrTop}

-- An access commits under the seat at which it asked, with the tuple that was granted.
pub record MayCommitAccess (past : Past) (seat : ℕ) (n : Name) (given : Answer) : Type 0 where
  pub by_client : IsTrue (is_client seat)
  pub asked_here : AskedUnder past seat n
  pub going : IsGoing past n
  pub reply : MatchOption (granted past n) ⊥ (λ g. given ≡ answer.Reply g.grant.tuple)

-- what a manager answers: a reading one the value of the greatest version, a writing one nothing, a
-- reconfiguring one the generation after the newest
abbrev pub manager_answer : Past → Voting → Name → Kind → Answer
manager_answer past first m (kind.Read rec) = answer.Value (greatest past m).value
manager_answer past first m (kind.Reconf rec config) = answer.Generation ((newest past first m).generation + 1)
manager_answer past first m _ = answer.Nothing

-- A manager commits under its own seat once it is complete.
pub record MayCommitManager (setting : Setting) (past : Past) (seat : ℕ) (n : Name) (m : Begun) (given : Answer) : Type 0 where
  pub by_client : IsTrue (is_client seat)
  pub own_seat : seat ≡ m.seat
  pub going : IsGoing past n
  pub complete : IsTrue (is_complete past (first_for setting m.kind) n m.kind)
  pub children_ended : open_child past n ≡ None
  pub answers : given ≡ manager_answer past (first_for setting m.kind) n m.kind

-- who may commit, by its kind
abbrev pub MayCommit : Setting → Past → ℕ → Name → Begun → Answer → Kind → Type 0
MayCommit setting past seat n m given (kind.User session body) = MayCommitUserOrTop past seat n given
MayCommit setting past seat n m given kind.Access = MayCommitAccess past seat n given
MayCommit setting past seat n m given _ = MayCommitManager setting past seat n m given
