-- Trails in which a child is aborted, of bodies where it must commit or need not.
use Rattle.std.specs.Prelude.{Bool, true, false, List, [], ◌∷◌, ◌++◌}
use Rattle.qc_config.specs.Val.{Number}
use Rattle.qc_config.specs.declared.tuple.Op.TheVariants.{Get}
use Rattle.qc_event.specs.declared.event.Answer.TheVariants as answer
use Rattle.qc_event.specs.declared.event.Cause.TheVariants as cause
use Rattle.qc_event.specs.declared.event.Entry.{Entry}
use Rattle.qc_event.specs.declared.event.Event.TheVariants as event
use Rattle.qc_event.specs.declared.event.How.TheVariants.{Commit, Abort}
use Rattle.qc_event.specs.declared.event.Kind.TheVariants as kind
use Rattle.qc_event.specs.History.{Name}
use Rattle.qc_script.specs.Plan.{Plan, Numbered, manage_then}
use Rattle.rows_laws.specs.Trails.{client, x, top, top2, first_child, second_child, grandchild, reader2, access, old, by, user, served, body_of}
use Rattle.rows_laws.specs.Values.{commits}

-- a child that aborts itself, and must commit or need not; then read x
abbrev pub child_then_read : Bool → Plan
child_then_read must = Plan.child_then 1 1 must (Plan.abort_then 0 Plan.done) (manage_then (kind.Read x) Plan.done)

abbrev pub child : Bool → List Numbered
child must = body_of (child_then_read must)

-- the same, tried twice
abbrev pub child_twice : List Numbered
child_twice = record { number = 0; tries = 2; must = false; plan = child_then_read true } ∷ []

-- a top starts, and its child aborts itself
abbrev pub aborts_itself : Name → Name → List Entry
aborts_itself t c = user client t ∷ by client (event.Start c (kind.User 0 1)) ∷ by client (event.End c (Abort (cause.Asked c))) ∷ []

-- the top is aborted for it
abbrev pub aborted_for_it : Name → Name → List Entry
aborted_for_it t c = aborts_itself t c ++ by client (event.End t (Abort (cause.Child c))) ∷ []

abbrev pub aborted : List Entry
aborted = aborted_for_it top first_child

-- the top is begun again, to the same end
abbrev pub aborted_twice : List Entry
aborted_twice = aborted ++ aborted_for_it top2 reader2

-- the top goes on
abbrev pub went_on : List Entry
went_on =
    aborts_itself top first_child
    ++ by client (event.Start second_child (kind.Read x))
    ∷ served (access second_child 1) Get old (by client (event.End second_child (Commit (answer.Value (Number 0)))) ∷ commits)

-- a grandchild, which must commit, aborts the top
abbrev pub far_body : Numbered
far_body = record { number = 0; tries = 1; must = false; plan = Plan.child_then 1 1 false (Plan.child_then 2 1 true (Plan.abort_then 2 Plan.done) Plan.done) Plan.done }

-- it does so, and its parent is aborted for it, and not as an orphan
abbrev pub no_orphan : List Entry
no_orphan =
    user client top
    ∷ by client (event.Start first_child (kind.User 0 1))
    ∷ by client (event.Start grandchild (kind.User 0 2))
    ∷ by client (event.End top (Abort (cause.Asked grandchild)))
    ∷ by client (event.End grandchild (Abort (cause.Orphan top)))
    ∷ by client (event.End first_child (Abort (cause.Child grandchild)))
    ∷ []
