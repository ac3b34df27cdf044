-- The managers that are done, in the order that completion gives.
use Rattle.std.specs.Prelude.{if◌then◌else◌, List, [], ◌∷◌, ◌++◌, filter, flat_map, Option, Some}
use Rattle.qc_event.specs.declared.event.Answer.{Answer}
use Rattle.qc_event.specs.declared.event.Event.{Event}
use Rattle.qc_event.specs.declared.event.Event.TheVariants as event
use Rattle.qc_event.specs.declared.event.How.TheVariants.{Commit}
use Rattle.qc_event.specs.declared.event.Kind.{Kind}
use Rattle.qc_event.specs.declared.event.Kind.TheVariants as kind
use Rattle.qc_event.specs.Dead.{ancestors}
use Rattle.qc_event.specs.History.{Past, Name, Given, is_child, kind_of}
use Rattle.qc_serial.specs.Visible.{served}
use Rattle.qc_serial.specs.Walk.{is_open_or_root}
use Rattle.qc_refine.specs.InTurn.{Done}

-- What the commit of a child adds: a manager is done, with what it was given before, and a user child adds
-- those that were done below it.
abbrev pub done_by : Option Kind → Answer → List Given → List Done → List Done
done_by (Some (kind.User session body)) answer given inner = inner
done_by (Some (kind.Read rec)) answer given inner = record { kind = kind.Read rec; answer = answer; given = given } ∷ []
done_by (Some (kind.Write rec value)) answer given inner = record { kind = kind.Write rec value; answer = answer; given = given } ∷ []
done_by (Some (kind.Reconf rec config)) answer given inner = record { kind = kind.Reconf rec config; answer = answer; given = given } ∷ []
done_by _ answer given inner = []

-- what an entry adds to the managers done below a name; before tells those below each child
abbrev pub done_in : Past → (Name → List Done) → Name → Event → List Done
done_in past before n (event.End c (Commit answer)) = if is_child n c then done_by (kind_of past c) answer (served past c) (before c) else []
done_in past before n _ = []

-- the managers done below a name, in the order in which what they did was handed up
abbrev pub dones : Past → Name → List Done
dones [] n = []
dones (e ∷ past) n = dones past n ++ done_in past (dones past) n e.event

-- those below the root, and then those below each open ancestor of the transaction in turn
abbrev pub dones_order : Past → Name → List Done
dones_order past t = flat_map (dones past) (filter (is_open_or_root past) (ancestors t))
