-- Refusals and whom they refuse.
use Rattle.std.specs.Prelude.{Option, None, Some}
use Rattle.qc_event.specs.declared.event.Event.{Event}
use Rattle.qc_event.specs.declared.event.Event.TheVariants as event
use Rattle.qc_event.specs.declared.event.Refusal.{Refusal}
use Rattle.qc_event.specs.History.{Name}

-- whom the event refuses
abbrev pub refused_name : Event → Option Name
refused_name (event.Refused n copy refusal) = Some n
refused_name _ = None

-- the refusal, where the event is one
abbrev pub refusal_of : Event → Option Refusal
refusal_of (event.Refused n copy refusal) = Some refusal
refusal_of _ = None
