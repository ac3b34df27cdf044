-- Whom an entry is about.
use Rattle.std.specs.Prelude.{Option, None, Some, if◌then◌else◌}
use Rattle.qc_event.specs.declared.event.Event.{Event}
use Rattle.qc_event.specs.declared.event.Event.TheVariants as event
use Rattle.qc_event.specs.declared.event.Why.{Why}
use Rattle.qc_event.specs.History.{Name}
use Rattle.qc_event.specs.Requests.{is_why}

-- who asks by the event
abbrev pub asked_name : Event → Option Name
asked_name (event.Ask ask) = Some ask.access
asked_name _ = None

-- whom the event gives up
abbrev pub gone_name : Event → Option Name
gone_name (event.Gone access why) = Some access
gone_name _ = None

-- who could not be served for this reason, by the event
abbrev pub unable_name : Why → Event → Option Name
unable_name why (event.Unable n told) = if is_why why told then Some n else None
unable_name why _ = None
