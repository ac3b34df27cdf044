-- Trails in which a transaction marks a session.
use Rattle.std.specs.Prelude.{ℕ, false, List, [], ◌∷◌}
use Rattle.qc_config.specs.Val.{Number}
use Rattle.qc_event.specs.declared.event.Answer.TheVariants as answer
use Rattle.qc_event.specs.declared.event.Cause.TheVariants as cause
use Rattle.qc_event.specs.declared.event.Entry.{Entry}
use Rattle.qc_event.specs.declared.event.Event.TheVariants as event
use Rattle.qc_event.specs.declared.event.How.TheVariants.{Commit, Abort}
use Rattle.qc_event.specs.declared.event.Kind.TheVariants as kind
use Rattle.qc_script.specs.Plan.{Plan, Numbered, manage_then}
use Rattle.rows_laws.specs.Trails.{client, other_client, x, top, first_child, grandchild, by, user, body_of}
use Rattle.rows_laws.specs.Values.{commits}

-- BODIES

-- a session is marked, then read x
abbrev pub kill_then_read : ℕ → List Numbered
kill_then_read session = body_of (Plan.kill_then session (manage_then (kind.Read x) Plan.done))

-- a session is marked, and that is all
abbrev pub kill_alone : ℕ → List Numbered
kill_alone session = body_of (Plan.kill_then session Plan.done)

-- a child marks session 1
abbrev pub child_kills : List Numbered
child_kills = body_of (Plan.child_then 1 1 false (Plan.kill_then 1 Plan.done) Plan.done)

-- a child marks session 1, behind the grandchild that aborts that child
abbrev pub kills_in_aborted : List Numbered
kills_in_aborted = body_of (Plan.child_then 1 1 false (Plan.child_then 2 1 false (Plan.abort_then 1 Plan.done) (Plan.kill_then 1 Plan.done)) Plan.done)

-- TRAILS OF SESSION 0

-- the top marks a session
abbrev pub marks_then : ℕ → List Entry → List Entry
marks_then session rest = user client top ∷ by client (event.Mark top session) ∷ rest

-- the top is killed
abbrev pub is_killed : List Entry
is_killed = by client (event.End top (Abort cause.Killed)) ∷ []

-- the top reads x, and commits
abbrev pub reads_on : List Entry
reads_on =
    by client (event.Start first_child (kind.Read x)) ∷ by client (event.End first_child (Commit (answer.Value (Number 0)))) ∷ commits

-- the top marks a session under another seat, and commits
abbrev pub marks_elsewhere : List Entry
marks_elsewhere = user client top ∷ by other_client (event.Mark top 1) ∷ commits

-- the top marks session 1 in its child's place
abbrev pub parent_marks : List Entry
parent_marks =
    user client top
    ∷ by client (event.Start first_child (kind.User 0 1))
    ∷ by client (event.End first_child (Commit answer.Nothing))
    ∷ by client (event.Mark top 1)
    ∷ commits

-- a grandchild aborts its parent, which marks session 1 afterwards
abbrev pub marks_late : List Entry
marks_late =
    user client top
    ∷ by client (event.Start first_child (kind.User 0 1))
    ∷ by client (event.Start grandchild (kind.User 0 2))
    ∷ by client (event.End first_child (Abort (cause.Asked grandchild)))
    ∷ by client (event.End grandchild (Abort (cause.Orphan first_child)))
    ∷ by client (event.Mark first_child 1)
    ∷ commits

-- a grandchild is killed, and has aborted the top
abbrev pub killed_asks : List Entry
killed_asks =
    user client top
    ∷ by client (event.Start first_child (kind.User 0 1))
    ∷ by client (event.Start grandchild (kind.User 0 2))
    ∷ by client (event.End grandchild (Abort cause.Killed))
    ∷ by client (event.End top (Abort (cause.Asked grandchild)))
    ∷ by client (event.End first_child (Abort (cause.Orphan top)))
    ∷ []
