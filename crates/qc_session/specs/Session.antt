-- What the client of a session leaves in its pass, and what the clients of a script's sessions leave in the first pass.
use Rattle.std.specs.Prelude.{ℕ, ◌≡◌, ◌+◌, ◌<◌, ◌≤◌, ◌==◌, ◌⊎◌, Bool, true, IsTrue, List, [], ◌∷◌, length, OnOk, IsErrOf, Result, Ok, Err}
use Rattle.std.specs.List.{list_all, list_any}
use Rattle.qc_event.specs.declared.short.Short.{Short}
use Rattle.qc_event.specs.declared.short.Short.TheVariants.{Room}
use Rattle.qc_event.specs.Base.{Setting}
use Rattle.qc_event.specs.History.{Past, limit}
use Rattle.qc_interp.specs.AtOnce.{told_want}
use Rattle.qc_interp.specs.FollowsScript.{net_of}
use Rattle.qc_interp.specs.Reach.{Reach}
use Rattle.qc_interp.specs.Session.{EndsTopsAt, InTurnAt}
use Rattle.qc_net.specs.Messages.{meets_fates}
use Rattle.qc_desk.specs.declared.view.View.{View as Pass}
use Rattle.qc_desk.specs.Entries.{IsOlder, entries_of}
use Rattle.qc_desk.specs.Known.{IsKnown}
use Rattle.qc_desk.specs.Rules.{AreKin, Has, numbers}
use Rattle.qc_script.specs.Plan.{SessionPlan, SessionWithin}
use Rattle.qc_session.specs.Clients.{client_for}
use Rattle.qc_session.specs.Marking.{made_under}
use Rattle.qc_session.specs.Tidy.{AreTidy}

-- ONE CLIENT

-- what a session may ask for over the records and copies of a setting
abbrev pub SessionFits : Setting → SessionPlan → Type 0
SessionFits setting plan = SessionWithin (length setting.base) (length setting.firsts) plan

-- each of these is above the numbers of the ledger and the copies
abbrev pub AreHigh : List ℕ → Type 0
AreHigh seats = (k : ℕ) → Has seats k → 17 < k

-- a pass is a client's, and has entered nothing
pub record IsNew (v : Pass) : Type 0 where
  pub live : v.live ≡ true
  pub number : 17 < v.number
  pub mine : v.mine ≡ []
  pub kin : v.kin ≡ []
  pub out : v.out ≡ []
  pub none : entries_of v.number v.seen ≡ []

-- What the client of a session left in its pass, which had seen this before, as far as the run came: tops that are tries
-- of the session's bodies, run in turn, and requests that meet the fates of its link.
pub record Leaves (reach : Reach) (setting : Setting) (epoch patience session : ℕ) (plan : SessionPlan) (before : Past) (v : Pass) : Type 0 where
  pub ends : EndsTopsAt reach (client_for setting epoch patience session plan v) before v.seen plan.tops
  pub in_turn : InTurnAt reach (client_for setting epoch patience session plan v) before v.seen
  pub met : IsTrue (list_all (λ seat. meets_fates seat (net_of patience plan) v.seen) (numbers v))
  pub tidy : ∥ AreTidy (numbers v) v.seen ∥₁

-- The client of a session ran by this pass, and gave it back so: with the branches that it has merged, under none of whose
-- numbers anything was entered before.
pub record RanOne (setting : Setting) (epoch patience session : ℕ) (plan : SessionPlan) (given : Pass) (ran : Result (Unit {0}) Short) (back : Pass) : Type 0 where
  pub number : back.number ≡ given.number
  pub live : back.live ≡ true
  pub out : back.out ≡ []
  pub high : AreHigh (numbers back)
  pub none : made_under (numbers back) given.seen ≡ []
  pub follows : OnOk ran (Leaves Reach.to_the_end setting epoch patience session plan given.seen back)
  pub begins : Leaves Reach.cut_off setting epoch patience session plan given.seen back
  pub room : IsErrOf ran Room → length back.seen ≡ limit
  pub known : IsKnown setting back

-- EACH OF THEM

-- whether a number is a pass's, or of one that was joined into it
abbrev pub is_of : Pass → ℕ → Bool
is_of v k = list_any (λ n. n == k) (numbers v)

-- the first pass, which has given the numbers of the ledger and the copies, and has entered nothing
pub record IsFirst (v : Pass) : Type 0 where
  pub live : v.live ≡ true
  pub number : v.number ≡ 0
  pub given : v.count ≡ 17
  pub mine : v.mine ≡ []

-- The client of a session, whose pass had seen this and was new, ran and joined it to the first pass.
pub record Joined (reach : Reach) (setting : Setting) (epoch patience session : ℕ) (plan : SessionPlan) (one first : Pass) : Type 0 where
  pub high : AreHigh (numbers one)
  pub own : one.mine ≡ entries_of one.number one.seen
  pub kin : AreKin one.kin one.seen
  pub before : Past
  pub none : made_under (numbers one) before ≡ []
  pub leaves : Leaves reach setting epoch patience session plan before one
  pub joined : (k : ℕ) (m : Past) → Has ((one.number, one.mine) ∷ one.kin) (k, m) → Has first.kin (k, m)
  pub seen : IsOlder one.seen first.seen

-- so did the clients of these sessions, numbered from this one on
abbrev pub EachJoined : Reach → Setting → ℕ → ℕ → ℕ → List SessionPlan → List Pass → Pass → Type 0
EachJoined reach setting epoch patience session [] [] first = Unit {0}
EachJoined reach setting epoch patience session (plan ∷ plans) (one ∷ ones) first =
    Joined reach setting epoch patience session plan one first × EachJoined reach setting epoch patience (session + 1) plans ones first
EachJoined reach setting epoch patience session _ _ first = ⊥

-- The clients of these sessions, and no others, joined their passes to the first pass meanwhile, and none is out that was
-- not.
pub record HaveRun (reach : Reach) (setting : Setting) (epoch patience session : ℕ) (plans : List SessionPlan) (before now : Pass) : Type 0 where
  pub ones : List Pass
  pub each : EachJoined reach setting epoch patience session plans ones now
  pub only : (k : ℕ) (m : Past) → Has now.kin (k, m) → Has before.kin (k, m) ⊎ IsTrue (list_any (λ (v : Pass). is_of v k) ones)
  pub kept : (k : ℕ) (m : Past) → Has before.kin (k, m) → Has now.kin (k, m)
  pub out : (k : ℕ) → Has now.out k → Has before.out k
  pub older : IsOlder before.seen now.seen

-- what is told of two, of which either may be a want
abbrev pub first_want : Result (Unit {0}) Short → Result (Unit {0}) Short → Result (Unit {0}) Short
first_want (Ok done) other = other
first_want (Err one) (Ok done) = Err one
first_want (Err one) (Err other) = Err (told_want one other)

-- the sessions ran so, all to their end or as far as memory and room went
pub record RanEach (setting : Setting) (epoch patience session : ℕ) (plans : List SessionPlan) (before : Pass) (ran : Result (Unit {0}) Short) (now : Pass) : Type 0 where
  pub first : IsFirst now
  pub follows : OnOk ran (HaveRun Reach.to_the_end setting epoch patience session plans before now)
  pub begins : HaveRun Reach.cut_off setting epoch patience session plans before now
  pub room : IsErrOf ran Room → limit ≤ length now.seen
