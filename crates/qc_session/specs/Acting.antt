-- Why a desk or the ledger did not do what a client asked, as it tells its session.
use Rattle.std.specs.Prelude.{ℕ, ◌≡◌, ◌≤◌, ◌⊎◌, true, [], is_some, Option, None, Some}
use Rattle.qc_carry.specs.Walk.{Walk}
use Rattle.qc_event.specs.Dead.{dead, is_live, outcome}
use Rattle.qc_event.specs.Base.{Setting}
use Rattle.qc_event.specs.declared.event.Cause.{Cause}
use Rattle.qc_event.specs.declared.event.Kind.{Kind}
use Rattle.qc_event.specs.declared.event.Kind.TheVariants as kind
use Rattle.qc_event.specs.declared.short.Short.{Short}
use Rattle.qc_event.specs.declared.short.Short.TheVariants.{Memory}
use Rattle.qc_event.specs.History.{Name, end, is_ready}
use Rattle.qc_event.specs.Wants.{IsWant}
use Rattle.qc_ledger.specs.declared.fault.LedgerNo.{LedgerNo}
use Rattle.qc_ledger.specs.declared.fault.LedgerNo.TheVariants as ledger
use Rattle.qc_desk.specs.declared.refusal.DeskNo.{DeskNo}
use Rattle.qc_desk.specs.declared.view.View.{View}
use Rattle.qc_desk.specs.declared.refusal.DeskNo.TheVariants as desk
use Rattle.qc_script.specs.Calls.{IsForChild, IsNone, Refuses}
use Rattle.qc_script.specs.Plan.{KindFits}
use Rattle.qc_script.specs.declared.tx.TxNo.{TxNo}
use Rattle.qc_script.specs.declared.tx.TxNo.TheVariants as tx_no

-- a desk's refusal
abbrev pub no_of : DeskNo → TxNo
no_of (desk.Orphan a) = tx_no.Orphan a
no_of desk.Ended = tx_no.Ended
no_of (desk.ChildrenOpen c) = tx_no.ChildrenOpen c
no_of desk.Ready = tx_no.Ready
no_of (desk.Short short) = tx_no.Short short

-- the ledger's, which has no image to refuse once it is mounted
abbrev pub log_no : LedgerNo → TxNo
log_no ledger.Disk = tx_no.Ledger
log_no (ledger.Image bad) = tx_no.Short Memory
log_no (ledger.Full place) = tx_no.Ledger
log_no (ledger.Short short) = tx_no.Short short

-- a transaction of a kind may stand below a user transaction at this depth
abbrev pub StandsBelow : Setting → ℕ → Kind → Type 0
StandsBelow setting depth (kind.User session body) = depth ≤ 16
StandsBelow setting depth k = KindFits setting k

-- what was wanting, where a desk refused for nothing else
abbrev pub short_of : DeskNo → Short
short_of (desk.Short short) = short
short_of _ = Memory

-- nothing was entered, for want of memory or of room
abbrev pub IsWanting : View → View → Short → Type 0
IsWanting v w short = Walk v w [] × IsWant w.seen short

-- nothing was entered: a transaction had ended, or was ready and had not, or memory or room was wanting
abbrev pub IsUnaborted : View → View → Name → TxNo → Type 0
IsUnaborted v w n tx_no.Ended = Walk v w [] × (is_some (end w.seen n) ≡ true)
IsUnaborted v w n tx_no.Ready = Walk v w [] × (is_ready w.seen n ≡ true) × (is_live (outcome w.seen n) ≡ true)
IsUnaborted v w n (tx_no.Short short) = Walk v w [] × IsWant w.seen short
IsUnaborted v w n _ = ⊥

-- so it was, or the cause does not hold, or an ancestor, of which this is the shortest, is aborted where the cause is a child
abbrev pub IsUnfounded : View → View → Name → Cause → TxNo → Type 0
IsUnfounded v w n why tx_no.Ended = Walk v w [] × ((is_some (end w.seen n) ≡ true) ⊎ IsNone w.seen why)
IsUnfounded v w n why (tx_no.Orphan a) = Walk v w [] × IsForChild why × Refuses w.seen n (tx_no.Orphan a) × (dead w.seen n ≡ Some a)
IsUnfounded v w n why refused = IsUnaborted v w n refused

-- the aborted ancestor, where a desk refused for one
abbrev pub orphan_told : DeskNo → Option Name
orphan_told (desk.Orphan a) = Some a
orphan_told _ = None
