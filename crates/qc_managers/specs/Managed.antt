-- What a manager's answer, or its reason for none, says of the history.
use Rattle.std.specs.Prelude.{ℕ, ◌≡◌, IsTrue, Option, Some, None, MatchOption}
use Rattle.qc_event.specs.Aborts.{ManagerCause}
use Rattle.qc_event.specs.Base.{Setting}
use Rattle.qc_event.specs.Commits.{manager_answer}
use Rattle.qc_event.specs.Dead.{WasDead}
use Rattle.qc_event.specs.declared.event.Answer.{Answer}
use Rattle.qc_event.specs.declared.event.Cause.{Cause}
use Rattle.qc_event.specs.declared.event.Cause.TheVariants as cause
use Rattle.qc_event.specs.declared.event.Kind.{Kind}
use Rattle.qc_event.specs.History.{Past, Name}
use Rattle.qc_event.specs.Wants.{IsWant}
use Rattle.qc_event.specs.Manager.{is_complete, first_for}
use Rattle.qc_managers.specs.Carrying.{IsRunning}
use Rattle.qc_managers.specs.declared.carrier.CarryNo.{CarryNo}
use Rattle.qc_managers.specs.declared.carrier.CarryNo.TheVariants as carry
use Rattle.qc_managers.specs.declared.shortage.Shortage.{Shortage}
use Rattle.qc_managers.specs.declared.shortage.Shortage.TheVariants as shortage
use Rattle.qc_managers.specs.declared.no.MgrNo.{MgrNo}
use Rattle.qc_managers.specs.declared.no.MgrNo.TheVariants as no

-- A manager may commit with this answer: it runs and is complete.
pub record IsAnswered (setting : Setting) (seat : ℕ) (past : Past) (m : Name) (k : Kind) (given : Answer) : Type 0 where
  pub running : IsRunning seat past m k
  pub complete : IsTrue (is_complete past (first_for setting k) m k)
  pub answers : given ≡ manager_answer past (first_for setting k) m k

-- the cause of the manager's end, where it ends for this reason
abbrev pub cause_of : MgrNo → Option Cause
cause_of (no.Orphan ancestor) = Some (cause.Orphan ancestor)
cause_of (no.Conflict copy holder) = Some (cause.Conflict copy holder)
cause_of (no.NoQuorum lack) = Some (cause.NoQuorum lack)
cause_of no.Last = Some cause.Last
cause_of (no.Short short) = None

-- an ancestor that a cause names was the shortest aborted one at some time
abbrev pub NamesShortest : Past → Name → Cause → Type 0
NamesShortest past m (cause.Orphan a) = WasDead past m a
NamesShortest past m _ = Unit {0}

-- A manager that runs may end for this cause.
pub record MayEndFor (setting : Setting) (seat : ℕ) (past : Past) (m : Name) (k : Kind) (c : Cause) : Type 0 where
  pub running : IsRunning seat past m k
  pub licensed : ManagerCause setting past m k c
  pub shortest : NamesShortest past m c

-- where memory or room was wanting, what that says
abbrev pub IsShort : Past → MgrNo → Type 0
IsShort past (no.Short short) = IsWant past short
IsShort past _ = Unit {0}

-- A manager came to no answer: it may end for the cause, or memory or room was wanting.
abbrev pub ManagerIsRefused : Setting → ℕ → Past → Name → Kind → MgrNo → Type 0
ManagerIsRefused setting seat past m k why = MatchOption (cause_of why) (IsShort past why) (MayEndFor setting seat past m k)

-- the reason of a manager whose access was not carried to an answer
abbrev pub mgr_no : CarryNo → MgrNo
mgr_no (carry.Orphan ancestor) = no.Orphan ancestor
mgr_no (carry.Short short) = no.Short short

-- the reason of a manager that is short of a quorum
abbrev pub no_of : Shortage → MgrNo
no_of (shortage.Conflict copy holder) = no.Conflict copy holder
no_of (shortage.NoQuorum lack) = no.NoQuorum lack
