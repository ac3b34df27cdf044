-- What each status of a run says, and what it excludes.
use Rattle.std.proofs.Common.{ℕ, ◌≡◌, true, List, [], refl, sym, subst}
use Rattle.std.specs.Prelude.{Option}
use Rattle.qc_disk.specs.Disk.{DiskView}
use Rattle.qc_disk.specs.Shop.{ShopView as Shop}
use Rattle.qc_event.specs.History.{Name, is_ready}
use Rattle.qc_io.specs.Io.{SourceView}
use Rattle.qc_script.specs.Plan.{ScriptPlan}
use Rattle.qc_script.specs.declared.bad_script.BadScript.{BadScript}
use Rattle.qc_run.specs.Left.{IsPerformed, IsUnmounted, HadNoScript}
use Rattle.qc_run.specs.Run.{BeganNothing, HadNone, HadScript, HadSession, IsNotMounted, IsOfAudit, IsReported, IsScriptFault, RanToEnd}
use Rattle.qc_run.specs.Audit.{MayAudit}
use Rattle.qc_run.specs.declared.status.Status.{Status}
use Rattle.qc_run.specs.declared.status.Status.TheVariants as status

pub ended_session : (answer : Status) → RanToEnd answer → HadSession answer
ended_session status.Room ended = tt
ended_session answer ended = ended

pub reported_ran : (answer : Status) → IsReported answer → HadSession answer
reported_ran status.Done is = tt
reported_ran status.InDoubt is = tt
reported_ran status.Usage is = absurd is
reported_ran (status.Script e) is = absurd is
reported_ran status.ReadFault is = absurd is
reported_ran status.WriteFault is = absurd is
reported_ran (status.DiskFault which) is = absurd is
reported_ran (status.Image bad) is = absurd is
reported_ran status.Memory is = absurd is
reported_ran status.Trail is = absurd is
reported_ran (status.Illegal at) is = absurd is
reported_ran (status.Unserial at) is = absurd is
reported_ran status.Room is = absurd is

pub failed_ran : (answer : Status) → answer ≡ status.WriteFault → HadSession answer
failed_ran answer failed = subst HadSession (sym failed) tt

pub ran_read : (answer : Status) → HadSession answer → HadScript answer
ran_read status.Done is = tt
ran_read status.InDoubt is = tt
ran_read status.WriteFault is = tt
ran_read status.Usage is = absurd is
ran_read (status.Script e) is = absurd is
ran_read status.ReadFault is = absurd is
ran_read (status.DiskFault which) is = absurd is
ran_read (status.Image bad) is = absurd is
ran_read status.Memory is = absurd is
ran_read status.Trail is = absurd is
ran_read (status.Illegal at) is = absurd is
ran_read (status.Unserial at) is = absurd is
ran_read status.Room is = tt

pub none_had : (words : List (List ℕ)) (before now : SourceView) (answer : Status) → HadNoScript words before now answer → HadScript answer → ⊥
none_had words before now status.Done none is = absurd none.1
none_had words before now status.InDoubt none is = absurd none.1
none_had words before now status.WriteFault none is = absurd none.1
none_had words before now status.Usage none is = absurd is
none_had words before now (status.Script e) none is = absurd is
none_had words before now status.ReadFault none is = absurd is
none_had words before now (status.DiskFault which) none is = absurd none.1
none_had words before now (status.Image bad) none is = absurd none.1
none_had words before now status.Memory none is = absurd is
none_had words before now status.Trail none is = absurd is
none_had words before now (status.Illegal at) none is = absurd is
none_had words before now (status.Unserial at) none is = absurd is
none_had words before now status.Room none is = absurd none.1

pub unmounted_not_ran : {D : Type 0} (view : D → DiskView) (s : ScriptPlan) (shop : Shop) (place : List ℕ) (now : ℕ) (disks : List D) (answer : Status) → IsUnmounted view s shop place now disks answer → HadSession answer → ⊥
unmounted_not_ran view s shop place now disks status.Done un is = absurd un
unmounted_not_ran view s shop place now disks status.InDoubt un is = absurd un
unmounted_not_ran view s shop place now disks status.WriteFault un is = absurd un
unmounted_not_ran view s shop place now disks status.Usage un is = absurd is
unmounted_not_ran view s shop place now disks (status.Script e) un is = absurd is
unmounted_not_ran view s shop place now disks status.ReadFault un is = absurd is
unmounted_not_ran view s shop place now disks (status.DiskFault which) un is = absurd is
unmounted_not_ran view s shop place now disks (status.Image bad) un is = absurd is
unmounted_not_ran view s shop place now disks status.Memory un is = absurd is
unmounted_not_ran view s shop place now disks status.Trail un is = absurd is
unmounted_not_ran view s shop place now disks (status.Illegal at) un is = absurd is
unmounted_not_ran view s shop place now disks (status.Unserial at) un is = absurd is
unmounted_not_ran view s shop place now disks status.Room un is = absurd un

pub performed_began : (answer : Status) → IsPerformed answer → BeganNothing answer → ⊥
performed_began status.Done is none = absurd none
performed_began status.InDoubt is none = absurd none
performed_began status.WriteFault is none = absurd none
performed_began status.Usage is none = absurd is
performed_began (status.Script e) is none = absurd is
performed_began status.ReadFault is none = absurd is
performed_began (status.DiskFault which) is none = absurd is
performed_began (status.Image bad) is none = absurd is
performed_began status.Memory is none = absurd none
performed_began status.Trail is none = absurd is
performed_began (status.Illegal at) is none = absurd none
performed_began (status.Unserial at) is none = absurd none
performed_began status.Room is none = absurd none

pub unmounted_read : (answer : Status) → IsNotMounted answer → HadScript answer
unmounted_read (status.DiskFault which) is = tt
unmounted_read (status.Image bad) is = tt
unmounted_read status.Done is = absurd is
unmounted_read status.InDoubt is = absurd is
unmounted_read status.WriteFault is = absurd is
unmounted_read status.Usage is = absurd is
unmounted_read (status.Script e) is = absurd is
unmounted_read status.ReadFault is = absurd is
unmounted_read status.Memory is = absurd is
unmounted_read status.Trail is = absurd is
unmounted_read (status.Illegal at) is = absurd is
unmounted_read (status.Unserial at) is = absurd is
unmounted_read status.Room is = absurd is

pub performed_mounted : (answer : Status) → IsPerformed answer → IsNotMounted answer → ⊥
performed_mounted status.Done is un = absurd un
performed_mounted status.InDoubt is un = absurd un
performed_mounted status.WriteFault is un = absurd un
performed_mounted status.Usage is un = absurd is
performed_mounted (status.Script e) is un = absurd is
performed_mounted status.ReadFault is un = absurd is
performed_mounted (status.DiskFault which) is un = absurd is
performed_mounted (status.Image bad) is un = absurd is
performed_mounted status.Memory is un = absurd un
performed_mounted status.Trail is un = absurd un
performed_mounted (status.Illegal at) is un = absurd un
performed_mounted (status.Unserial at) is un = absurd un
performed_mounted status.Room is un = absurd un

pub unmounted_had : {D : Type 0} (view : D → DiskView) (s : ScriptPlan) (shop : Shop) (place : List ℕ) (now : ℕ) (disks : List D) (answer : Status) → IsUnmounted view s shop place now disks answer → HadNone answer → ⊥
unmounted_had view s shop place now disks status.Done un is = absurd un
unmounted_had view s shop place now disks status.InDoubt un is = absurd un
unmounted_had view s shop place now disks status.WriteFault un is = absurd un
unmounted_had view s shop place now disks status.Usage un is = absurd un
unmounted_had view s shop place now disks (status.Script e) un is = absurd un
unmounted_had view s shop place now disks status.ReadFault un is = absurd un
unmounted_had view s shop place now disks (status.DiskFault which) un is = absurd is
unmounted_had view s shop place now disks (status.Image bad) un is = absurd is
unmounted_had view s shop place now disks status.Memory un is = absurd is
unmounted_had view s shop place now disks status.Trail un is = absurd is
unmounted_had view s shop place now disks (status.Illegal at) un is = absurd is
unmounted_had view s shop place now disks (status.Unserial at) un is = absurd is
unmounted_had view s shop place now disks status.Room un is = absurd is

pub performed_had : (answer : Status) → IsPerformed answer → HadNone answer → ⊥
performed_had status.Usage is none = absurd is
performed_had (status.Script e) is none = absurd is
performed_had status.ReadFault is none = absurd is
performed_had status.Done is none = absurd none
performed_had status.InDoubt is none = absurd none
performed_had status.WriteFault is none = absurd none
performed_had (status.DiskFault which) is none = absurd none
performed_had (status.Image bad) is none = absurd none
performed_had status.Memory is none = absurd none
performed_had status.Trail is none = absurd none
performed_had (status.Illegal at) is none = absurd none
performed_had (status.Unserial at) is none = absurd none
performed_had status.Room is none = absurd none

pub none_fault : (words : List (List ℕ)) (before now : SourceView) (answer : Status) → HadNoScript words before now answer → IsScriptFault words before.left answer
none_fault words before now (status.Script e) none = (none.0, none.1.0, none.1.1)
none_fault words before now status.Done none = tt
none_fault words before now status.InDoubt none = tt
none_fault words before now status.WriteFault none = tt
none_fault words before now status.Usage none = tt
none_fault words before now status.ReadFault none = tt
none_fault words before now (status.DiskFault which) none = tt
none_fault words before now (status.Image bad) none = tt
none_fault words before now status.Memory none = tt
none_fault words before now status.Trail none = tt
none_fault words before now (status.Illegal at) none = tt
none_fault words before now (status.Unserial at) none = tt
none_fault words before now status.Room none = tt

pub no_fault : (words : List (List ℕ)) (left : Option (List ℕ)) (answer : Status) → ((e : BadScript) → answer ≡ status.Script e → ⊥) → IsScriptFault words left answer
no_fault words left (status.Script e) none = absurd (none e refl)
no_fault words left status.Done none = tt
no_fault words left status.InDoubt none = tt
no_fault words left status.WriteFault none = tt
no_fault words left status.Usage none = tt
no_fault words left status.ReadFault none = tt
no_fault words left (status.DiskFault which) none = tt
no_fault words left (status.Image bad) none = tt
no_fault words left status.Memory none = tt
no_fault words left status.Trail none = tt
no_fault words left (status.Illegal at) none = tt
no_fault words left (status.Unserial at) none = tt
no_fault words left status.Room none = tt

-- an audit mounts no store
pub audit_mounted : (answer : Status) → MayAudit answer → IsNotMounted answer → ⊥
audit_mounted (status.DiskFault which) may un = absurd may
audit_mounted (status.Image bad) may un = absurd may
audit_mounted status.Done may un = absurd un
audit_mounted status.InDoubt may un = absurd un
audit_mounted status.WriteFault may un = absurd un
audit_mounted status.Usage may un = absurd un
audit_mounted (status.Script e) may un = absurd un
audit_mounted status.ReadFault may un = absurd un
audit_mounted status.Memory may un = absurd un
audit_mounted status.Trail may un = absurd un
audit_mounted (status.Illegal at) may un = absurd un
audit_mounted (status.Unserial at) may un = absurd un
audit_mounted status.Room may un = absurd un

-- what had no script answers no status of an audit
pub refused_unaudited : (words : List (List ℕ)) (before now : SourceView) (answer : Status) → HadNoScript words before now answer → IsOfAudit answer → ⊥
refused_unaudited words before now status.Trail none is = none.1
refused_unaudited words before now (status.Illegal at) none is = none.1
refused_unaudited words before now (status.Unserial at) none is = none.1
refused_unaudited words before now answer none is = absurd is

-- nor does a session
pub performed_unaudited : (answer : Status) → IsPerformed answer → IsOfAudit answer → ⊥
performed_unaudited status.Trail is of = is
performed_unaudited (status.Illegal at) is of = is
performed_unaudited (status.Unserial at) is of = is
performed_unaudited answer is of = absurd of

-- in an empty history nobody is ready
pub none_ready : (top : Name) → is_ready [] top ≡ true → ⊥
none_ready top ready = cc
