-- Which entries can be saved: what their types do not say of them.
use Rattle.std.specs.Prelude.{ℕ, ◌≡◌, ◌<◌, List, [], length, slice_index_or, IsTrue}
use Rattle.qc_config.specs.declared.tuple.Op.{Op}
use Rattle.qc_config.specs.declared.tuple.Op.TheVariants.{Get, PutData, PutConfig}
use Rattle.qc_config.specs.declared.tuple.Tuple.{Tuple}
use Rattle.qc_event.specs.declared.event.Answer.{Answer}
use Rattle.qc_event.specs.declared.event.Answer.TheVariants.{Nothing, Value, Generation, Reply}
use Rattle.qc_event.specs.declared.event.Ask.{Ask}
use Rattle.qc_event.specs.declared.event.Cause.{Cause}
use Rattle.qc_event.specs.declared.event.Cause.TheVariants as cause
use Rattle.qc_event.specs.declared.event.Entry.{Entry}
use Rattle.qc_event.specs.declared.event.Event.{Event}
use Rattle.qc_event.specs.declared.event.Event.TheVariants as event
use Rattle.qc_event.specs.declared.event.Grant.{Grant}
use Rattle.qc_event.specs.declared.event.How.{How}
use Rattle.qc_event.specs.declared.event.How.TheVariants.{Commit, Abort}
use Rattle.qc_event.specs.declared.event.Kind.{Kind}
use Rattle.qc_event.specs.declared.event.Kind.TheVariants.{User, Read, Write, Reconf, Access}
use Rattle.qc_event.specs.declared.event.Refusal.{Refusal}
use Rattle.qc_event.specs.declared.event.Refusal.TheVariants.{Blocked, Dead}
use Rattle.qc_event.specs.Grants.{Sets}
use Rattle.qc_codec.specs.Fields.{IsNumbered}
use Rattle.qc_trail_codec.specs.Reasons.{is_inability}

-- how many records the first copy of a base has
abbrev pub records_of : List (List Tuple) → ℕ
records_of base = length (slice_index_or base 0 [])

-- a tuple's configuration has votes for so many copies
abbrev pub IsTupleFor : ℕ → Tuple → Type 0
IsTupleFor copies t = length t.config.votes ≡ copies

-- and that of an operation, where it puts one
abbrev pub IsOpFor : ℕ → Op → Type 0
IsOpFor copies Get = Unit {0}
IsOpFor copies (PutData version value) = Unit {0}
IsOpFor copies (PutConfig generation config) = length config.votes ≡ copies

-- and that to which a manager changes
abbrev pub IsKindFor : ℕ → Kind → Type 0
IsKindFor copies (User session body) = Unit {0}
IsKindFor copies (Read rec) = Unit {0}
IsKindFor copies (Write rec value) = Unit {0}
IsKindFor copies (Reconf rec config) = length config.votes ≡ copies
IsKindFor copies Access = Unit {0}

-- and that which an access replies
abbrev pub IsAnswerFor : ℕ → Answer → Type 0
IsAnswerFor copies Nothing = Unit {0}
IsAnswerFor copies (Value value) = Unit {0}
IsAnswerFor copies (Generation generation) = Unit {0}
IsAnswerFor copies (Reply t) = IsTupleFor copies t

-- the name that a cause tells is numbered, where it tells one
abbrev pub IsNumberedCause : Cause → Type 0
IsNumberedCause (cause.Asked by) = IsNumbered by
IsNumberedCause (cause.Conflict copy holder) = IsNumbered holder
IsNumberedCause (cause.NoQuorum lack) = Unit {0}
IsNumberedCause cause.Last = Unit {0}
IsNumberedCause (cause.Orphan ancestor) = IsNumbered ancestor
IsNumberedCause cause.Killed = Unit {0}
IsNumberedCause (cause.Child child) = IsNumbered child
IsNumberedCause cause.Missed = Unit {0}

-- and that which a refusal tells
abbrev pub IsNumberedRefusal : Refusal → Type 0
IsNumberedRefusal (Blocked holder) = IsNumbered holder
IsNumberedRefusal (Dead ancestor) = IsNumbered ancestor

-- what a transaction answers, or why it was aborted, can be saved
abbrev pub CanEndBeSaved : ℕ → How → Type 0
CanEndBeSaved copies (Commit answer) = IsAnswerFor copies answer
CanEndBeSaved copies (Abort c) = IsNumberedCause c

-- A request is of a numbered name, and puts a configuration for so many copies, where it puts one.
pub record CanAskBeSaved (copies : ℕ) (ask : Ask) : Type 0 where
  pub numbered : IsNumbered ask.access
  pub for_copies : IsOpFor copies ask.op

-- A grant is of a numbered name, and its tuple is for so many copies and has what the operation sets.
pub record CanGrantBeSaved (copies : ℕ) (grant : Grant) : Type 0 where
  pub numbered : IsNumbered grant.access
  pub for_copies : IsTupleFor copies grant.tuple
  pub sets : Sets grant.op grant.tuple

-- an event can be saved beside a base of so many copies
abbrev pub CanEventBeSaved : ℕ → Event → Type 0
CanEventBeSaved copies (event.Start n k) = IsNumbered n × IsKindFor copies k
CanEventBeSaved copies (event.Ask ask) = CanAskBeSaved copies ask
CanEventBeSaved copies (event.Gone access why) = IsNumbered access
CanEventBeSaved copies (event.Granted copy grant) = CanGrantBeSaved copies grant
CanEventBeSaved copies (event.Refused access copy refusal) = IsNumbered access × IsNumberedRefusal refusal
CanEventBeSaved copies (event.Unable n why) = IsNumbered n × IsTrue (is_inability why)
CanEventBeSaved copies (event.Mark by session) = IsNumbered by × (session < 16)
CanEventBeSaved copies (event.Ready top) = IsNumbered top
CanEventBeSaved copies (event.End n how) = IsNumbered n × CanEndBeSaved copies how

-- An entry can be saved beside a base of so many copies.
abbrev pub CanBeSaved : ℕ → Entry → Type 0
CanBeSaved copies e = CanEventBeSaved copies e.event
