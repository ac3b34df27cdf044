-- What a carrier does for a manager: one access, started, asked and ended.
use Rattle.std.specs.Prelude.{ℕ, ◌≡◌, ◌+◌, ◌==◌, ◌⊎◌, Bool, IsTrue, [], ◌∷◌, ◌++◌, length, filter, All, None, Some}
use Rattle.qc_config.specs.declared.tuple.Op.{Op}
use Rattle.qc_event.specs.declared.event.Answer.TheVariants.{Reply}
use Rattle.qc_event.specs.declared.event.Ask.{Ask}
use Rattle.qc_event.specs.declared.event.Cause.TheVariants.{Missed, Orphan}
use Rattle.qc_event.specs.declared.event.Entry.{Entry}
use Rattle.qc_event.specs.declared.event.Event.{Event}
use Rattle.qc_event.specs.declared.event.Event.TheVariants as event
use Rattle.qc_event.specs.declared.event.How.TheVariants.{Commit, Abort}
use Rattle.qc_event.specs.declared.event.Kind.{Kind}
use Rattle.qc_event.specs.declared.event.Kind.TheVariants as kind
use Rattle.qc_event.specs.declared.event.Why.{Why}
use Rattle.qc_event.specs.declared.event.Why.TheVariants.{Lost, Late}
use Rattle.qc_event.specs.Base.{Setting}
use Rattle.qc_event.specs.Counts.{Rose}
use Rattle.qc_event.specs.History.{Past, Name, start, end, children, asks}
use Rattle.qc_event.specs.Manager.{Result, Replied, Missing, BlockedBy, result, AtStage}
use Rattle.qc_event.specs.Requests.{IsNextAsk, was_unable}
use Rattle.qc_event.specs.Standing.{IsManager, open_child, IsNamedOrphan}
use Rattle.qc_event.specs.Wants.{IsWant}
use Rattle.qc_managers.specs.declared.carrier.Carried.{Carried}
use Rattle.qc_managers.specs.declared.carrier.Carried.TheVariants as carried
use Rattle.qc_managers.specs.declared.carrier.CarryNo.{CarryNo}
use Rattle.qc_managers.specs.declared.carrier.CarryNo.TheVariants as no

-- MANAGERS THAT RUN

-- A manager of a kind runs under a seat: it was started there and has not ended, and each of its accesses
-- has.
pub record IsRunning (seat : ℕ) (past : Past) (m : Name) (k : Kind) : Type 0 where
  pub started : start past m ≡ Some (record { seat = seat; kind = k })
  pub not_ended : end past m ≡ None
  pub children_ended : open_child past m ≡ None

-- the request that a manager's next access makes
abbrev pub next_ask : Past → Name → ℕ → ℕ → Op → Ask
next_ask past m copy rec op = record { access = m ++ (length (children past m) + 1) ∷ []; copy = copy; rec = rec; op = op }

-- What may be carried for a manager: it runs, and asks this next at its stage.
pub record MayCarry (setting : Setting) (seat : ℕ) (past : Past) (m : Name) (copy rec : ℕ) (op : Op) : Type 0 where
  pub kind : Kind
  pub manages : IsManager kind
  pub running : IsRunning seat past m kind
  pub of_stage : AtStage setting past m kind (IsNextAsk past m kind (next_ask past m copy rec op))

-- THE CARRIER

-- the entries made under a seat
abbrev pub made_by : ℕ → Past → Past
made_by seat past = filter (λ (e : Entry). e.seat == seat) past

-- A carrier at a moment.
pub record CarrierView : Type 0 where
  -- the start tuples and the records' first configurations
  pub setting : Setting
  -- the seat under which it makes entries
  pub seat : ℕ
  -- the history that it has seen, the latest entry first
  pub seen : Past
  -- which entries others may make while it carries
  pub others : Entry → Bool
  -- how often its link gave trouble, up to `2^64 - 1`
  pub troubles : ℕ

-- the entries that it made, the latest first
abbrev pub own_entries : CarrierView → Past
own_entries view = made_by view.seat view.seen

-- THE ENTRIES OF ONE ACCESS

abbrev pub entry : ℕ → Event → Entry
entry seat event = record { seat = seat; event = event }

-- an access has started and asked
abbrev pub began : ℕ → Ask → Past
began seat ask = entry seat (event.Ask ask) ∷ entry seat (event.Start ask.access kind.Access) ∷ []

-- an access has ended by its result: committed with the reply, or aborted, given up where it is missing
abbrev pub access_entries : ℕ → Ask → Result → Past
access_entries seat ask (Replied tuple) = entry seat (event.End ask.access (Commit (Reply tuple))) ∷ began seat ask
access_entries seat ask (BlockedBy holder) = entry seat (event.End ask.access (Abort Missed)) ∷ began seat ask
access_entries seat ask (Missing why) =
    entry seat (event.End ask.access (Abort Missed)) ∷ entry seat (event.Gone ask.access why) ∷ began seat ask

-- The access was stopped by an aborted ancestor: it did not start, or ended as an orphan, before it asked or
-- after.
abbrev pub WasStopped : ℕ → Ask → Name → Past → Type 0
WasStopped seat ask a made =
    (made ≡ [])
    ⊎ (made ≡ entry seat (event.End ask.access (Abort (Orphan a))) ∷ entry seat (event.Start ask.access kind.Access) ∷ [])
    ⊎ (made ≡ entry seat (event.End ask.access (Abort (Orphan a))) ∷ began seat ask)

-- what an access made that was cut off: a front of its entries
abbrev pub IsBegun : ℕ → Ask → Past → Type 0
IsBegun seat ask made =
    (made ≡ [])
    ⊎ (made ≡ entry seat (event.Start ask.access kind.Access) ∷ [])
    ⊎ (made ≡ began seat ask)
    ⊎ ((why : Why) × (made ≡ entry seat (event.Gone ask.access why) ∷ began seat ask))

-- WHAT IS SEEN

-- the name that an event is of
abbrev pub name_of : Event → Name
name_of (event.Start n kind) = n
name_of (event.Ask ask) = ask.access
name_of (event.Gone access why) = access
name_of (event.Granted copy grant) = grant.access
name_of (event.Refused access copy refusal) = access
name_of (event.Unable n why) = n
name_of (event.Mark by session) = by
name_of (event.Ready top) = top
name_of (event.End n how) = n

-- The history seen has grown, by entries of certain names, or such as others may make meanwhile.
pub record HasGrown (others : Entry → Bool) (Names : Name → Type 0) (before now : Past) : Type 0 where
  pub newer : Past
  pub grown : now ≡ newer ++ before
  pub each : All (λ e. Names (name_of e.event) ⊎ IsTrue (others e)) newer

-- What is known of a manager has grown by one request and what became of it.
pub record IsTold (before now : Past) (m : Name) (ask : Ask) (became : Result) : Type 0 where
  pub asked : asks now m ≡ asks before m ++ ask ∷ []
  pub newest : result now ask.access ≡ Some became
  pub as_before : All (λ (a : Ask). result now a.access ≡ result before a.access) (asks before m)

-- One access of a manager: the seat under which it is carried, and the history seen before and after.
pub record Carriage : Type 0 where
  pub seat : ℕ
  pub before : Past
  pub now : Past
  pub manager : Name
  pub ask : Ask

-- what is carried for a manager, to a copy, for a record and an operation
abbrev pub carriage : ℕ → Past → Past → Name → ℕ → ℕ → Op → Carriage
carriage seat before now m copy rec op =
    record { seat = seat; before = before; now = now; manager = m; ask = next_ask before m copy rec op }

-- the entries that were made under its seat before, and after
abbrev pub own_before : Carriage → Past
own_before way = made_by way.seat way.before

abbrev pub own_now : Carriage → Past
own_now way = made_by way.seat way.now

-- the result that the carrier answers
abbrev pub became : Carried → Result
became (carried.Reply tuple) = Replied tuple
became (carried.Blocked holder) = BlockedBy holder
became (carried.Gone why) = Missing why

-- The access was carried to its end, with this result, and the manager may go on.
pub record WasCarried (way : Carriage) (r : Result) : Type 0 where
  pub made : own_now way ≡ access_entries way.seat way.ask r ++ own_before way
  pub told : IsTold way.before way.now way.manager way.ask r
  pub not_ended : end way.now way.manager ≡ None
  pub children_ended : open_child way.now way.manager ≡ None

-- The access was stopped, since this ancestor of the manager is aborted, the shortest such at some time. The manager has
-- no open access.
pub record WasOrphaned (way : Carriage) (a : Name) : Type 0 where
  pub made : Past
  pub stopped : WasStopped way.seat way.ask a made
  pub added : own_now way ≡ made ++ own_before way
  pub orphan : IsNamedOrphan way.now way.manager a
  pub not_ended : end way.now way.manager ≡ None
  pub children_ended : open_child way.now way.manager ≡ None

-- The access was cut off: the entries that it made before stand.
pub record WasCutOff (way : Carriage) : Type 0 where
  pub made : Past
  pub part : IsBegun way.seat way.ask made
  pub added : own_now way ≡ made ++ own_before way

-- what stands where an access was not carried to an answer
abbrev pub WasNotCarried : Carriage → CarryNo → Type 0
WasNotCarried way (no.Orphan a) = WasOrphaned way a
WasNotCarried way (no.Short short) = WasCutOff way × IsWant way.now short

-- A reason for no answer stands on something: a trouble of the link, or the copy's own word.
abbrev pub HasReason : Carriage → Type 0 → Carried → Type 0
HasReason way Trouble (carried.Gone Lost) = Trouble
HasReason way Trouble (carried.Gone Late) = Trouble
HasReason way Trouble (carried.Gone why) = IsTrue (was_unable way.now way.ask.access why)
HasReason way Trouble _ = Unit {0}
