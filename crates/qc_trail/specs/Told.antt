-- What an entry in brief tells.
use Rattle.std.specs.Prelude.{ℕ, ◌≡◌, ◌<◌, List, [], ◌++◌, length, slice_get, slice_index_or, unwrap_or, is_some, IsTrue, Option, None, Some}
use Rattle.std.specs.List.{All}
use Rattle.qc_config.specs.Config.{no_config}
use Rattle.qc_config.specs.Val.{Datum, Number, text_of}
use Rattle.qc_config.specs.declared.tuple.Op.{Op}
use Rattle.qc_config.specs.declared.tuple.Op.TheVariants.{Get, PutData, PutConfig}
use Rattle.qc_config.specs.declared.tuple.Tuple.{Tuple}
use Rattle.qc_event.specs.declared.event.Answer.TheVariants.{Nothing, Value, Reply}
use Rattle.qc_event.specs.declared.event.Entry.{Entry}
use Rattle.qc_event.specs.declared.event.Event.{Event}
use Rattle.qc_event.specs.declared.event.Event.TheVariants as event_is
use Rattle.qc_event.specs.declared.event.How.TheVariants.{Commit}
use Rattle.qc_event.specs.declared.event.Kind.TheVariants.{User, Read, Write, Access}
use Rattle.qc_event.specs.History.{Name}
use Rattle.qc_trail.specs.declared.brief.Brief.{Brief}
use Rattle.qc_trail.specs.declared.brief.Brief.TheVariants as brief_is
use Rattle.qc_trail.specs.declared.brief.BriefEntry.{BriefEntry}
use Rattle.qc_trail.specs.declared.brief.BriefOp.{BriefOp}
use Rattle.qc_trail.specs.declared.brief.BriefOp.TheVariants as op_is
use Rattle.qc_trail.specs.declared.brief.BriefTuple.{BriefTuple}
use Rattle.qc_trail.specs.declared.brief.BriefTuple.TheVariants as tuple_is
use Rattle.qc_trail.specs.declared.rares.Rare.{Rare}
use Rattle.qc_trail.specs.Rare.{rare_at, rare_in, rare_told}

-- the names, the tuples, the texts and what is seldom, which stand apart
pub record Apart : Type 0 where
  pub names : List Name
  pub tuples : List BriefTuple
  pub texts : List (List ℕ)
  pub rares : List Rare

abbrev pub nothing_apart : Apart
nothing_apart = record { names = []; tuples = []; texts = []; rares = [] }

-- the first list goes on as the second
pub record GoesOn {A : Type 0} (before after : List A) : Type 0 where
  pub more : List A
  pub is : after ≡ before ++ more

-- what may be added stands at the place that is told, where there is something
abbrev pub StandsAt : {A : Type 0} → List A → Option A → Option ℕ → Type 0
StandsAt xs None None = Unit {0}
StandsAt xs (Some x) (Some at) = (at < length xs) × (slice_get xs at ≡ Some x)
StandsAt xs _ _ = ⊥

-- each of the lists goes on
pub record GrowsTo (before after : Apart) : Type 0 where
  pub names : GoesOn before.names after.names
  pub tuples : GoesOn before.tuples after.tuples
  pub texts : GoesOn before.texts after.texts
  pub rares : GoesOn before.rares after.rares

abbrev pub name_at : Apart → ℕ → Name
name_at apart at = slice_index_or apart.names at []

abbrev pub text_at : Apart → ℕ → Datum
text_at apart at = unwrap_or (text_of (slice_index_or apart.texts at [])) (Number 0)

-- the tuple that one in brief tells
abbrev pub tuple_told : Apart → BriefTuple → Tuple
tuple_told apart (tuple_is.Number version number generation config) =
    record { version = version; value = Number number; generation = generation; config = config }
tuple_told apart (tuple_is.Text version text generation config) =
    record { version = version; value = text_at apart text; generation = generation; config = config }

abbrev pub no_tuple : BriefTuple
no_tuple = tuple_is.Number 0 0 0 no_config

abbrev pub brief_tuple_at : Apart → ℕ → BriefTuple
brief_tuple_at apart at = slice_index_or apart.tuples at no_tuple

abbrev pub tuple_at : Apart → ℕ → Tuple
tuple_at apart at = tuple_told apart (brief_tuple_at apart at)

-- the put of a tuple's version and value
abbrev pub put_told : Tuple → Op
put_told tuple = PutData tuple.version tuple.value

-- the operation that one in brief tells
abbrev pub op_told : Apart → BriefOp → Op
op_told apart op_is.Get = Get
op_told apart (op_is.PutData of) = put_told (tuple_at apart of)
op_told apart (op_is.PutConfig of) = PutConfig (tuple_at apart of).generation (tuple_at apart of).config

-- a request of an access to a copy, for an operation on a record
abbrev pub ask_told : Name → ℕ → ℕ → Op → Event
ask_told access copy rec op = event_is.Ask (record { access = access; copy = copy; rec = rec; op = op })

-- what is told by an event in brief
abbrev pub event_told : Apart → Brief → Event
event_told apart (brief_is.StartUser name session body) = event_is.Start (name_at apart name) (User session body)
event_told apart (brief_is.StartRead name rec) = event_is.Start (name_at apart name) (Read rec)
event_told apart (brief_is.StartNumber name rec number) = event_is.Start (name_at apart name) (Write rec (Number number))
event_told apart (brief_is.StartText name rec text) = event_is.Start (name_at apart name) (Write rec (text_at apart text))
event_told apart (brief_is.StartAccess name) = event_is.Start (name_at apart name) Access
event_told apart (brief_is.AskGet access copy rec) = ask_told (name_at apart access) copy rec Get
event_told apart (brief_is.AskNumber access copy rec version number) = ask_told (name_at apart access) copy rec (PutData version (Number number))
event_told apart (brief_is.AskText access copy rec version text) = ask_told (name_at apart access) copy rec (PutData version (text_at apart text))
event_told apart (brief_is.Grant access copy rec op tuple) =
    event_is.Granted copy (record { access = name_at apart access; rec = rec; op = op_told apart op; tuple = tuple_at apart tuple })
event_told apart (brief_is.Ready top) = event_is.Ready (name_at apart top)
event_told apart (brief_is.Commit name) = event_is.End (name_at apart name) (Commit Nothing)
event_told apart (brief_is.CommitNumber name number) = event_is.End (name_at apart name) (Commit (Value (Number number)))
event_told apart (brief_is.CommitText name text) = event_is.End (name_at apart name) (Commit (Value (text_at apart text)))
event_told apart (brief_is.CommitReply name tuple) = event_is.End (name_at apart name) (Commit (Reply (tuple_at apart tuple)))
event_told apart (brief_is.Rare at) = rare_told (rare_at apart.rares at)

-- the entry that is told
abbrev pub told : Apart → BriefEntry → Entry
told apart e = record { seat = e.seat; event = event_told apart e.event }

-- the place of the text in a tuple in brief is within
abbrev pub HasText : Apart → BriefTuple → Type 0
HasText apart (tuple_is.Number version number generation config) = Unit {0}
HasText apart (tuple_is.Text version text generation config) = text < length apart.texts

-- a place is within the tuples, and so is the text of the one there
pub record HasTuple (apart : Apart) (at : ℕ) : Type 0 where
  pub within : at < length apart.tuples
  pub text : HasText apart (brief_tuple_at apart at)

-- the place in an operation in brief is within
abbrev pub HasOp : Apart → BriefOp → Type 0
HasOp apart op_is.Get = Unit {0}
HasOp apart (op_is.PutData of) = HasTuple apart of
HasOp apart (op_is.PutConfig of) = HasTuple apart of

-- the places in a grant in brief are within
pub record HasGrant (apart : Apart) (access : ℕ) (op : BriefOp) (tuple : ℕ) : Type 0 where
  pub has_access : access < length apart.names
  pub has_op : HasOp apart op
  pub has_tuple : HasTuple apart tuple

-- the places in an event in brief are within the lists
abbrev pub IsWithin : Apart → Brief → Type 0
IsWithin apart (brief_is.StartUser name session body) = name < length apart.names
IsWithin apart (brief_is.StartRead name rec) = name < length apart.names
IsWithin apart (brief_is.StartNumber name rec number) = name < length apart.names
IsWithin apart (brief_is.StartText name rec text) = (name < length apart.names) × (text < length apart.texts)
IsWithin apart (brief_is.StartAccess name) = name < length apart.names
IsWithin apart (brief_is.AskGet access copy rec) = access < length apart.names
IsWithin apart (brief_is.AskNumber access copy rec version number) = access < length apart.names
IsWithin apart (brief_is.AskText access copy rec version text) = (access < length apart.names) × (text < length apart.texts)
IsWithin apart (brief_is.Grant access copy rec op tuple) = HasGrant apart access op tuple
IsWithin apart (brief_is.Ready top) = top < length apart.names
IsWithin apart (brief_is.Commit name) = name < length apart.names
IsWithin apart (brief_is.CommitNumber name number) = name < length apart.names
IsWithin apart (brief_is.CommitText name text) = (name < length apart.names) × (text < length apart.texts)
IsWithin apart (brief_is.CommitReply name tuple) = (name < length apart.names) × HasTuple apart tuple
IsWithin apart (brief_is.Rare at) = at < length apart.rares

-- those of each entry in brief
abbrev pub AreWithin : Apart → List BriefEntry → Type 0
AreWithin apart = All (λ (e : BriefEntry). IsWithin apart e.event)

-- the event in brief tells the event, and its places are within
pub record Tells (apart : Apart) (brief : Brief) (event : Event) : Type 0 where
  pub within : IsWithin apart brief
  pub is : event_told apart brief ≡ event

-- an event that has no form in brief is seldom; one that has is told by it, and its places are within
abbrev pub MayTell : Apart → Option Brief → Event → Type 0
MayTell apart None event = IsTrue (is_some (rare_in event))
MayTell apart (Some brief) event = Tells apart brief event
