-- Which aborted names are listed of a top.
use Rattle.std.specs.Prelude.{◌&&◌, not, is_some, if◌then◌else◌, List, [], ◌∷◌, Option, None, Some}
use Rattle.qc_names.specs.Name as name
use Rattle.qc_event.specs.declared.event.Event.{Event}
use Rattle.qc_event.specs.declared.event.Event.TheVariants as event
use Rattle.qc_event.specs.declared.event.How.TheVariants.{Abort}
use Rattle.qc_event.specs.Dead.{outcome, is_aborted}
use Rattle.qc_event.specs.History.{Past, Name, same, every, ready_in}

-- a descendant of a top, where the event aborts one whose parent is not aborted in this history
abbrev pub aborted_in : Past → Name → Event → Option Name
aborted_in past top (event.End n (Abort c)) = if name.is_ancestor top n && not (same top n) && not (is_aborted (outcome past (name.front n))) then Some n else None
aborted_in past top _ = None

-- the aborted descendants of a top whose parent is not aborted, in the order of their ends
abbrev pub aborted_below : Past → Name → List Name
aborted_below past top = every (λ e. aborted_in past top e.event) past

-- the same when the top became ready
abbrev pub listed : Past → Name → List Name
listed [] top = []
listed (e ∷ past) top = if is_some (ready_in top e.event) then aborted_below past top else listed past top
