-- The lines of the events so far are written.
use Rattle.std.proofs.Common.{◌≡◌, ◌++◌, take}
use Rattle.std.specs.List.{flat_map}
use Rattle.qc_run.specs.Audit.{event_line}
use Rattle.qc_run.proofs.auditing.push_events.Given as goal

abbrev pub invariant-loop-event : goal.invariant-loop-event
invariant-loop-event l = l.page ≡ l.initial.page ++ flat_map (event_line l.table) (take l.event-index l.events)
