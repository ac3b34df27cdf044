-- Bodies with steps at which the copy crashes.
use Rattle.std.specs.Prelude.{false, List, ◌∷◌}
use Rattle.qc_config.specs.Val.{Number}
use Rattle.qc_event.specs.declared.event.Cause.TheVariants as cause
use Rattle.qc_event.specs.declared.event.Entry.{Entry}
use Rattle.qc_event.specs.declared.event.Event.TheVariants as event
use Rattle.qc_event.specs.declared.event.How.TheVariants.{Abort}
use Rattle.qc_event.specs.declared.event.Kind.TheVariants as kind
use Rattle.qc_script.specs.Plan.{Plan, Numbered, manage_then}
use Rattle.rows_laws.specs.Trails.{client, only_copy, x, top, first_child, grandchild, by, user, body_of}
use Rattle.rows_laws.specs.Values.{commits}

-- the copy crashes before what follows
abbrev pub crash : Plan → Plan
crash rest = Plan.crash_then only_copy rest

-- set x 5, read x: the copy crashes before each, and behind them
abbrev pub around : List Numbered
around = body_of (crash (manage_then (kind.Write x (Number 5)) (crash (manage_then (kind.Read x) (crash Plan.done)))))

-- it crashes in a child that aborts itself, and again before read x
abbrev pub in_child : List Numbered
in_child = body_of (Plan.child_then 1 1 false (crash (Plan.abort_then 0 Plan.done)) (crash (manage_then (kind.Read x) Plan.done)))

-- it crashes in a child, behind the grandchild that aborts that child
abbrev pub in_aborted : List Numbered
in_aborted = body_of (Plan.child_then 1 1 false (Plan.child_then 2 1 false (Plan.abort_then 1 Plan.done) (crash (manage_then (kind.Read x) Plan.done))) Plan.done)

-- a grandchild aborts its parent, and the top commits
abbrev pub aborts_parent : List Entry
aborts_parent =
    user client top
    ∷ by client (event.Start first_child (kind.User 0 1))
    ∷ by client (event.Start grandchild (kind.User 0 2))
    ∷ by client (event.End first_child (Abort (cause.Asked grandchild)))
    ∷ by client (event.End grandchild (Abort (cause.Orphan first_child)))
    ∷ commits

-- a top does nothing, and commits
abbrev pub nothing_done : List Entry
nothing_done = user client top ∷ commits
