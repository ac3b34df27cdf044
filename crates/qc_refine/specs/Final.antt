-- The value of a record at the end of a history, by the versions of its tuples.
use Rattle.std.specs.Prelude.{ℕ, ◌==◌, Bool, ◌&&◌, not, if◌then◌else◌, List, ◌++◌, drop, Option, None, Some}
use Rattle.std.specs.List.{list_all}
use Rattle.qc_config.specs.Val.{Datum}
use Rattle.qc_config.specs.declared.tuple.Tuple.{Tuple}
use Rattle.qc_event.specs.declared.event.Event.{Event}
use Rattle.qc_event.specs.declared.event.Event.TheVariants as event
use Rattle.qc_event.specs.Clear.{is_get}
use Rattle.qc_event.specs.Dead.{outcome, is_committed, ancestors}
use Rattle.qc_event.specs.History.{Past, Name, every}
use Rattle.qc_event.specs.Manager.{greatest_among}
use Rattle.qc_event.specs.Sound.{column}

-- whether each ancestor of a name but the root is committed, the name itself too
abbrev pub is_for_good : Past → Name → Bool
is_for_good past n = list_all (λ a. is_committed (outcome past a)) (drop 1 (ancestors n))

-- the tuple that a granted put of a record left at its copy, where its access is committed for good
abbrev pub put_for_good : Past → ℕ → Event → Option Tuple
put_for_good past rec (event.Granted copy grant) = if (grant.rec == rec) && not (is_get grant.op) && is_for_good past grant.access then Some grant.tuple else None
put_for_good past rec _ = None

-- what a record's tuples were at any copy: those that the copies started with, by copy, and then those
-- that puts left for good, in the order of the history
abbrev pub last_tuples : List (List Tuple) → Past → ℕ → List Tuple
last_tuples base past rec = column base rec ++ every (λ e. put_for_good past rec e.event) past

-- the value of the greatest version among them; of equals the earliest counts
abbrev pub final_value : List (List Tuple) → Past → ℕ → Datum
final_value base past rec = (greatest_among (last_tuples base past rec)).value
