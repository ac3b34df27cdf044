-- One access of a manager, by the entries of its client alone: what it waits for, how it ends, and what is left where it is cut off.
use Rattle.std.specs.Prelude.{ℕ, ◌≡◌, ◌⊎◌, ◌||◌, not, IsTrue, [], ◌∷◌, None, Some, Result, Ok, Err}
use Rattle.qc_event.specs.declared.event.Answer.TheVariants as answer
use Rattle.qc_event.specs.declared.event.Ask.{Ask}
use Rattle.qc_event.specs.declared.event.Cause.TheVariants.{Missed, Orphan as OrphanOf}
use Rattle.qc_event.specs.declared.event.Event.TheVariants as event
use Rattle.qc_event.specs.declared.event.How.TheVariants.{Commit, Abort}
use Rattle.qc_event.specs.declared.event.Refusal.TheVariants as refusal
use Rattle.qc_event.specs.declared.event.Why.{Why}
use Rattle.qc_event.specs.declared.short.Short.TheVariants.{Memory}
use Rattle.qc_event.specs.History.{Past, Name, gone, refused, end}
use Rattle.qc_event.specs.Manager.{Replied, Missing, BlockedBy, Result as Became}
use Rattle.qc_event.specs.Requests.{is_fault, was_unable}
use Rattle.qc_event.specs.Standing.{AsksUnder, IsNamedOrphan, open_child}
use Rattle.qc_event.specs.Wants.{IsWant}
use Rattle.qc_managers.specs.Carrying.{entry, access_entries, became, IsBegun, WasStopped}
use Rattle.qc_managers.specs.declared.carrier.Carried.{Carried}
use Rattle.qc_managers.specs.declared.carrier.Carried.TheVariants.{Reply, Blocked, Gone}
use Rattle.qc_managers.specs.declared.carrier.CarryNo.{CarryNo}
use Rattle.qc_managers.specs.declared.carrier.CarryNo.TheVariants as no
use Rattle.qc_net.specs.Messages.{asked_under}
use Rattle.qc_desk.specs.declared.refusal.DeskNo.{DeskNo}
use Rattle.qc_desk.specs.declared.refusal.DeskNo.TheVariants as desk_no
use Rattle.qc_desk.specs.declared.view.View.{View}
use Rattle.qc_desk.specs.Own.{IsOwnAccess}
use Rattle.qc_carry.specs.Walk.{Walk}

-- An access of one's own has asked, is open, and was not given up.
pub record Waits (past : Past) (seat : ℕ) (ask : Ask) : Type 0 where
  pub own : IsOwnAccess past seat ask.access
  pub asks_it : AsksUnder past seat ask
  pub ungone : gone past ask.access ≡ None

-- what a manager is told of an access that is not granted stands in the history: the first refusal, or the copy's own word
abbrev pub AnswerStands : Past → Name → Carried → Type 0
AnswerStands past access (Reply tuple) = Unit {0}
AnswerStands past access (Blocked holder) = refused past access ≡ Some (refusal.Blocked holder)
AnswerStands past access (Gone why) = IsTrue (not (is_fault why) || was_unable past access why)

-- the entries with which an access that asked ends, by its result
abbrev pub ending : ℕ → Ask → Became → Past
ending seat ask (Replied tuple) = entry seat (event.End ask.access (Commit (answer.Reply tuple))) ∷ []
ending seat ask (BlockedBy holder) = entry seat (event.End ask.access (Abort Missed)) ∷ []
ending seat ask (Missing why) = entry seat (event.End ask.access (Abort Missed)) ∷ entry seat (event.Gone ask.access why) ∷ []

-- the entry with which an access ends as an orphan
abbrev pub orphaning : ℕ → Name → Name → Past
orphaning seat access ancestor = entry seat (event.End access (Abort (OrphanOf ancestor))) ∷ []

-- why an access is not carried on, by what a desk answers to a call
abbrev pub no_of : DeskNo → CarryNo
no_of (desk_no.Orphan a) = no.Orphan a
no_of (desk_no.Short short) = no.Short short
no_of _ = no.Short Memory

-- nothing was entered, for want of memory or of room
abbrev pub IsShort : View → View → CarryNo → Type 0
IsShort v w (no.Orphan a) = ⊥
IsShort v w (no.Short short) = Walk v w [] × IsWant w.seen short

-- an access that has started is stopped: it ended as an orphan, or nothing was entered
abbrev pub IsStopped : View → View → Name → CarryNo → Type 0
IsStopped v w access (no.Orphan a) = Walk v w (orphaning v.number access a) × IsNamedOrphan w.seen access a
IsStopped v w access (no.Short short) = Walk v w [] × IsWant w.seen short

-- nothing was entered, or the access was given up
abbrev pub IsLeft : View → View → Name → Type 0
IsLeft v w access = Walk v w [] ⊎ ((why : Why) × Walk v w (entry v.number (event.Gone access why) ∷ []))

-- what an access that waits has come to: it ended by what its manager is told, or as an orphan, or it was left
abbrev pub Ends : View → View → Ask → Result Carried CarryNo → Type 0
Ends v w ask (Ok told) = Walk v w (ending v.number ask (became told)) × AnswerStands w.seen ask.access told
Ends v w ask (Err (no.Orphan a)) = Walk v w (orphaning v.number ask.access a) × IsNamedOrphan w.seen ask.access a
Ends v w ask (Err (no.Short short)) = IsLeft v w ask.access × IsWant w.seen short

-- the entries of an access that was cut off, by why
abbrev pub IsPart : View → View → Name → Ask → Past → CarryNo → Type 0
IsPart v w m ask made (no.Orphan a) = WasStopped v.number ask a made × IsNamedOrphan w.seen m a × (end w.seen m ≡ None) × (open_child w.seen m ≡ None)
IsPart v w m ask made (no.Short short) = IsBegun v.number ask made × IsWant w.seen short

-- a manager's next access was cut off
abbrev pub Cut : View → View → Name → Ask → CarryNo → Type 0
Cut v w m ask why = (made : Past) × Walk v w made × IsPart v w m ask made why

-- it was cut off before it asked
abbrev pub CutUnasked : View → View → Name → Ask → CarryNo → Type 0
CutUnasked v w m ask why = (made : Past) × Walk v w made × IsPart v w m ask made why × (asked_under v.number made ≡ [])

-- what a manager's next access has come to
abbrev pub Course : View → View → Name → Ask → Result Carried CarryNo → Type 0
Course v w m ask (Ok told) = Walk v w (access_entries v.number ask (became told)) × AnswerStands w.seen ask.access told
Course v w m ask (Err why) = Cut v w m ask why
