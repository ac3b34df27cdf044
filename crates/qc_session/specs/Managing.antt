-- What a manager answers, and why it does not.
use Rattle.std.specs.Prelude.{ℕ, ◌≡◌, ◌+◌, [], ◌∷◌, ◌++◌, length, Result, Ok}
use Rattle.qc_carry.specs.Walk.{Walk}
use Rattle.qc_event.specs.declared.event.Answer.{Answer}
use Rattle.qc_event.specs.declared.event.Cause.TheVariants as cause
use Rattle.qc_event.specs.declared.event.Event.TheVariants as event
use Rattle.qc_event.specs.declared.event.How.{How}
use Rattle.qc_event.specs.declared.event.How.TheVariants.{Commit, Abort}
use Rattle.qc_event.specs.declared.event.Kind.{Kind}
use Rattle.qc_event.specs.declared.event.Kind.TheVariants as kind
use Rattle.qc_event.specs.History.{Past, Name, children}
use Rattle.qc_event.specs.Standing.{IsNamedOrphan}
use Rattle.qc_event.specs.Wants.{IsWant}
use Rattle.qc_managers.specs.Carrying.{entry}
use Rattle.qc_desk.specs.declared.view.View.{View}
use Rattle.qc_desk.specs.Entries.{IsSince}
use Rattle.qc_desk.specs.Rules.{extends}
use Rattle.qc_managers.specs.declared.no.MgrNo.{MgrNo}
use Rattle.qc_managers.specs.declared.no.MgrNo.TheVariants as no
use Rattle.qc_script.specs.declared.tx.TxNo.{TxNo}
use Rattle.qc_script.specs.declared.tx.TxNo.TheVariants as tx_no

-- what a client tells where a manager came to no answer
abbrev pub told : MgrNo → TxNo
told (no.Orphan ancestor) = tx_no.Orphan ancestor
told (no.Conflict copy holder) = tx_no.Conflict copy holder
told (no.NoQuorum lack) = tx_no.NoQuorum lack
told no.Last = tx_no.Last
told (no.Short short) = tx_no.Short short

-- A client started a transaction as the next child of a name, behind what others had entered.
pub record HasStarted (v w : View) (of n : Name) (k : Kind) : Type 0 where
  pub before : Past
  pub since : IsSince v.number v.seen before
  pub named : n ≡ of ++ (length (children before of) + 1) ∷ []
  pub grown : w ≡ extends (entry v.number (event.Start n k)) before v

-- the client's pass went on by the end of a manager alone
abbrev pub Ends : View → View → Name → How → Type 0
Ends v w n how = Walk v w (entry v.number (event.End n how) ∷ [])

-- A manager was aborted, and its client is told why; or want of memory or room left it open.
abbrev pub NotClosed : View → View → Name → TxNo → Type 0
NotClosed v w n (tx_no.Orphan a) = Ends v w n (Abort (cause.Orphan a)) × IsNamedOrphan w.seen n a
NotClosed v w n (tx_no.Conflict copy holder) = Ends v w n (Abort (cause.Conflict copy holder))
NotClosed v w n (tx_no.NoQuorum lack) = Ends v w n (Abort (cause.NoQuorum lack))
NotClosed v w n tx_no.Last = Ends v w n (Abort cause.Last)
NotClosed v w n (tx_no.Short short) = Walk v w [] × IsWant w.seen short
NotClosed v w n _ = ⊥

-- a manager committed with what it came to
abbrev pub Closed : View → View → Name → Result Answer MgrNo → Answer → Type 0
Closed v w n came_to given = (came_to ≡ Ok given) × Ends v w n (Commit given)
