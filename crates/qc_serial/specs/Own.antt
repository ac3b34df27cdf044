-- What a transaction sees of its own: starts, ends and answers of its children.
use Rattle.std.specs.Prelude.{Bool, false, if◌then◌else◌, List, [], ◌∷◌, ◌++◌, filter, Option, Some}
use Rattle.qc_event.specs.declared.event.Answer.TheVariants as answer
use Rattle.qc_event.specs.declared.event.Event.{Event}
use Rattle.qc_event.specs.declared.event.Event.TheVariants as event
use Rattle.qc_event.specs.declared.event.How.{How}
use Rattle.qc_event.specs.declared.event.How.TheVariants.{Commit, Abort}
use Rattle.qc_event.specs.declared.event.Kind.{Kind}
use Rattle.qc_event.specs.declared.event.Kind.TheVariants as kind
use Rattle.qc_serial.specs.declared.event.SerialEvent.{SerialEvent}
use Rattle.qc_serial.specs.declared.event.SerialEvent.TheVariants.{Start, Enter, Read, Write, Leave, Skip}
use Rattle.qc_event.specs.History.{Past, Name, is_child, kind_of}

-- whether an event is a transaction's own: a start, leave, skip, read or write of a child of it
abbrev pub is_own : Name → SerialEvent → Bool
is_own t (Start n) = is_child t n
is_own t (Enter n) = false
is_own t (Read n rec value) = is_child t n
is_own t (Write n rec value) = is_child t n
is_own t (Leave n) = is_child t n
is_own t (Skip n) = is_child t n

-- the transaction's own events of a list, in its order
abbrev pub own : Name → List SerialEvent → List SerialEvent
own t events = filter (is_own t) events

-- what a child's end is to its parent, by the child's kind
abbrev pub own_end : Option Kind → Name → How → List SerialEvent
own_end (Some (kind.User session body)) c (Commit given) = Leave c ∷ []
own_end (Some (kind.User session body)) c (Abort cause) = Skip c ∷ []
own_end (Some (kind.Read rec)) c (Commit (answer.Value value)) = Read c rec value ∷ []
own_end (Some (kind.Write rec value)) c (Commit given) = Write c rec value ∷ []
own_end _ c how = []

-- what an entry is to a transaction: the start of a user child, or a child's end
abbrev pub own_in : Past → Name → Event → List SerialEvent
own_in past t (event.Start c (kind.User session body)) = if is_child t c then Start c ∷ [] else []
own_in past t (event.End c how) = if is_child t c then own_end (kind_of past c) c how else []
own_in past t _ = []

-- the transaction's own events of a history, in its order
abbrev pub own_past : Name → Past → List SerialEvent
own_past t [] = []
own_past t (e ∷ past) = own_past t past ++ own_in past t e.event
