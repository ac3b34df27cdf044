-- By whom an access is blocked.
use Rattle.std.specs.Prelude.{Option, None, Some}
use Rattle.qc_event.specs.declared.event.Refusal.{Refusal}
use Rattle.qc_event.specs.declared.event.Refusal.TheVariants.{Blocked, Dead}
use Rattle.qc_event.specs.History.{Name}

-- the holder that a refusal names
abbrev pub holder_in : Refusal → Option Name
holder_in (Blocked holder) = Some holder
holder_in (Dead ancestor) = None
