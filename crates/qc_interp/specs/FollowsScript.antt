-- What it is for a history to follow a script of sessions.
use Rattle.std.specs.Prelude.{ℕ, ◌≡◌, ◌+◌, ◌⊎◌, Bool, false, nat_lt, IsTrue, List, [], ◌∷◌, length, Option, None, Some}
use Rattle.std.specs.List.{list_all}
use Rattle.std.specs.Option.{option_map_or}
use Rattle.qc_event.specs.declared.event.Cause.TheVariants.{Asked}
use Rattle.qc_event.specs.declared.event.Event.{Event}
use Rattle.qc_event.specs.declared.event.Event.TheVariants.{Start}
use Rattle.qc_event.specs.declared.event.How.TheVariants.{Abort}
use Rattle.qc_event.specs.declared.event.Kind.{Kind}
use Rattle.qc_event.specs.declared.event.Kind.TheVariants.{User}
use Rattle.qc_event.specs.History.{Past, Name, every, end, children, kind_of}
use Rattle.qc_net.specs.Messages.{Net}
use Rattle.qc_script.specs.Numbers.{each, is_next_top}
use Rattle.qc_script.specs.Plan.{SessionPlan}
use Rattle.qc_interp.specs.Asking.{BodiesAsk}
use Rattle.qc_interp.specs.Reach.{Reach, AtTheEnd}
use Rattle.qc_interp.specs.Session.{RunsBodies}
use Rattle.qc_interp.specs.Sessions.{tops_of, RunsInTurn, has_own_seats, meets, is_settled}

abbrev pub started_in : Event → Option Name
started_in (Start n k) = Some n
started_in _ = None

-- every name that was started, in order
abbrev pub started : Past → List Name
started past = every (λ e. started_in e.event) past

-- ONE SESSION

-- the link of a session, whose senders wait for so many due steps
abbrev pub net_of : ℕ → SessionPlan → Net
net_of patience s = record { fates = s.fates; hold = s.hold; patience = patience }

-- A history has a session: its tops are tries of the session's bodies in order, each of which does what its plan asks for,
-- as far as the run came; the session runs in turn; and its requests meet the fates of its link.
pub record RunsSession (reach : Reach) (session patience : ℕ) (plan : SessionPlan) (past : Past) : Type 0 where
  pub bodies_run : RunsBodies reach session past plan.tops (tops_of session past)
  pub in_turn : RunsInTurn session past
  pub messages : IsTrue (meets session (net_of patience plan) past)

-- ALL SESSIONS

-- each of some sessions, numbered from this one on
abbrev pub EachRuns : Reach → ℕ → ℕ → List SessionPlan → Past → Type 0
EachRuns reach session patience [] past = Unit {0}
EachRuns reach session patience (s ∷ sessions) past = RunsSession reach session patience s past × EachRuns reach (session + 1) patience sessions past

-- as one of the sessions, numbered from this one on, runs its bodies, one comes to a step `abort` that names another
abbrev pub OneAsks : ℕ → List SessionPlan → Past → Name → Name → Type 0
OneAsks session [] past by target = ⊥
OneAsks session (s ∷ sessions) past by target = BodiesAsk past s.tops (tops_of session past) by target ⊎ OneAsks (session + 1) sessions past by target

-- whether a kind is of a user transaction of one of so many sessions
abbrev pub is_of_session : ℕ → Kind → Bool
is_of_session count (User s body) = nat_lt s count
is_of_session count _ = false

-- whether a name was started for one of so many sessions
abbrev pub is_in_session : ℕ → Past → Name → Bool
is_in_session count past t = option_map_or (is_of_session count) (kind_of past t) false

-- A history is of a script of sessions, in an epoch, with so much patience. Each top is of a session of the script, and
-- the history has each session, under seats of its own, so that each begins its fates by itself; tops are numbered in order,
-- whatever their sessions; whoever was aborted as another asked
-- is named by a step `abort` to which that one came; and where the run came to its end, each that has started has ended, or
-- is a ready top that was unable to be logged.
pub record RunsScript (reach : Reach) (epoch patience : ℕ) (sessions : List SessionPlan) (past : Past) : Type 0 where
  pub only : IsTrue (list_all (is_in_session (length sessions) past) (children past []))
  pub each_runs : EachRuns reach 0 patience sessions past
  pub own_seats : IsTrue (has_own_seats past)
  pub numbers : IsTrue (each (is_next_top epoch) past)
  pub as_asked : (n by : Name) → end past n ≡ Some (Abort (Asked by)) → (n ≡ by) ⊎ OneAsks 0 sessions past by n
  pub each_settled : AtTheEnd reach (IsTrue (list_all (is_settled past) (started past)))

-- It follows the script.
abbrev pub FollowsScript : ℕ → ℕ → List SessionPlan → Past → Type 0
FollowsScript epoch patience sessions past = RunsScript Reach.to_the_end epoch patience sessions past

-- It is a beginning of one that follows the script, cut off for want of memory or room.
abbrev pub BeginsScript : ℕ → ℕ → List SessionPlan → Past → Type 0
BeginsScript epoch patience sessions past = RunsScript Reach.cut_off epoch patience sessions past
