-- What is seldom in a history, and the events that it tells.
use Rattle.std.specs.Prelude.{ℕ, List, [], slice_index_or, Option, None, Some}
use Rattle.qc_config.specs.declared.tuple.Op.{Op}
use Rattle.qc_config.specs.declared.tuple.Op.TheVariants.{PutConfig}
use Rattle.qc_event.specs.declared.event.Answer.TheVariants.{Generation}
use Rattle.qc_event.specs.declared.event.Cause.{Cause}
use Rattle.qc_event.specs.declared.event.Cause.TheVariants as cause_is
use Rattle.qc_event.specs.declared.event.Refusal.{Refusal}
use Rattle.qc_event.specs.declared.event.Refusal.TheVariants as refusal_is
use Rattle.qc_event.specs.declared.event.Event.{Event}
use Rattle.qc_event.specs.declared.event.Event.TheVariants as event_is
use Rattle.qc_event.specs.declared.event.How.TheVariants.{Commit, Abort}
use Rattle.qc_event.specs.declared.event.Kind.TheVariants.{Reconf}
use Rattle.qc_event.specs.History.{Name}
use Rattle.qc_trail.specs.declared.rares.Rare.{Rare}
use Rattle.qc_trail.specs.declared.rares.Rare.TheVariants as rare_is

abbrev pub no_rare : Rare
no_rare = rare_is.Mark [] 0

abbrev pub rare_at : List Rare → ℕ → Rare
rare_at rares at = slice_index_or rares at no_rare

-- what is told by what is seldom
abbrev pub rare_told : Rare → Event
rare_told (rare_is.Start name rec config) = event_is.Start name (Reconf rec config)
rare_told (rare_is.Ask access copy rec generation config) = event_is.Ask (record { access = access; copy = copy; rec = rec; op = PutConfig generation config })
rare_told (rare_is.Gone access why) = event_is.Gone access why
rare_told (rare_is.Blocked access copy holder) = event_is.Refused access copy (refusal_is.Blocked holder)
rare_told (rare_is.Dead access copy ancestor) = event_is.Refused access copy (refusal_is.Dead ancestor)
rare_told (rare_is.Unable name why) = event_is.Unable name why
rare_told (rare_is.Mark by session) = event_is.Mark by session
rare_told (rare_is.Asked name by) = event_is.End name (Abort (cause_is.Asked by))
rare_told (rare_is.Conflict name copy holder) = event_is.End name (Abort (cause_is.Conflict copy holder))
rare_told (rare_is.NoQuorum name lack) = event_is.End name (Abort (cause_is.NoQuorum lack))
rare_told (rare_is.Last name) = event_is.End name (Abort cause_is.Last)
rare_told (rare_is.Orphan name ancestor) = event_is.End name (Abort (cause_is.Orphan ancestor))
rare_told (rare_is.Killed name) = event_is.End name (Abort cause_is.Killed)
rare_told (rare_is.Child name child) = event_is.End name (Abort (cause_is.Child child))
rare_told (rare_is.Missed name) = event_is.End name (Abort cause_is.Missed)
rare_told (rare_is.Generation name generation) = event_is.End name (Commit (Generation generation))

-- a request for a new configuration, which is seldom
abbrev pub rare_asked : Name → ℕ → ℕ → Op → Option Rare
rare_asked access copy rec (PutConfig generation config) = Some (rare_is.Ask access copy rec generation config)
rare_asked access copy rec _ = None

-- a refusal, by its reason
abbrev pub refused_in : Name → ℕ → Refusal → Rare
refused_in access copy (refusal_is.Blocked holder) = rare_is.Blocked access copy holder
refused_in access copy (refusal_is.Dead ancestor) = rare_is.Dead access copy ancestor

-- an abort, by its cause
abbrev pub abort_in : Name → Cause → Rare
abort_in name (cause_is.Asked by) = rare_is.Asked name by
abort_in name (cause_is.Conflict copy holder) = rare_is.Conflict name copy holder
abort_in name (cause_is.NoQuorum lack) = rare_is.NoQuorum name lack
abort_in name cause_is.Last = rare_is.Last name
abort_in name (cause_is.Orphan ancestor) = rare_is.Orphan name ancestor
abort_in name cause_is.Killed = rare_is.Killed name
abort_in name (cause_is.Child child) = rare_is.Child name child
abort_in name cause_is.Missed = rare_is.Missed name

-- what is seldom of an event, where it is
abbrev pub rare_in : Event → Option Rare
rare_in (event_is.Start name (Reconf rec config)) = Some (rare_is.Start name rec config)
rare_in (event_is.Ask ask) = rare_asked ask.access ask.copy ask.rec ask.op
rare_in (event_is.Gone access why) = Some (rare_is.Gone access why)
rare_in (event_is.Refused access copy refusal) = Some (refused_in access copy refusal)
rare_in (event_is.Unable name why) = Some (rare_is.Unable name why)
rare_in (event_is.Mark by session) = Some (rare_is.Mark by session)
rare_in (event_is.End name (Abort cause)) = Some (abort_in name cause)
rare_in (event_is.End name (Commit (Generation generation))) = Some (rare_is.Generation name generation)
rare_in _ = None
