-- Trails in which branches of a top run at once.
use Rattle.std.specs.Prelude.{ℕ, Bool, true, false, List, [], ◌∷◌, ◌++◌}
use Rattle.qc_config.specs.Val.{Number}
use Rattle.qc_event.specs.declared.event.Answer.TheVariants as answer
use Rattle.qc_event.specs.declared.event.Cause.TheVariants as cause
use Rattle.qc_event.specs.declared.event.Entry.{Entry}
use Rattle.qc_event.specs.declared.event.Event.TheVariants as event
use Rattle.qc_event.specs.declared.event.How.TheVariants.{Commit, Abort}
use Rattle.qc_event.specs.declared.event.Kind.TheVariants as kind
use Rattle.qc_event.specs.History.{Name}
use Rattle.qc_event.specs.Seats.{number_in}
use Rattle.qc_script.specs.Plan.{Plan, Numbered, manage_then}
use Rattle.rows_laws.specs.Trails.{client, other_client, third_client, x, top, first_child, second_child, access, conflict, by, user, body_of}
use Rattle.rows_laws.specs.Values.{commits}

abbrev pub third_child : Name
third_child = number_in 1 1 ∷ 3 ∷ []

abbrev pub fourth_child : Name
fourth_child = number_in 1 1 ∷ 4 ∷ []

-- BODIES

abbrev pub read_then_done : Plan
read_then_done = manage_then (kind.Read x) Plan.done

-- two branches that read x, of which the first is tried twice, and must commit or need not
abbrev pub two_branches : Bool → Plan
two_branches must = Plan.child_then 1 2 must read_then_done (Plan.child_then 2 1 false read_then_done Plan.done)

-- they run at once; then read x
abbrev pub two_read : Bool → List Numbered
two_read must = body_of (Plan.par_then (two_branches must) read_then_done)

-- the second aborts the top
abbrev pub one_aborts : List Numbered
one_aborts = body_of (Plan.par_then (Plan.child_then 1 2 true read_then_done (Plan.child_then 2 1 false (Plan.abort_then 1 Plan.done) Plan.done)) read_then_done)

-- WHAT A BRANCH DOES, UNDER ITS SEAT

-- a try of a body starts
abbrev pub begins : ℕ → Name → ℕ → Entry
begins seat n body = by seat (event.Start n (kind.User 0 body))

-- its read starts
abbrev pub looks : ℕ → Name → Entry
looks seat n = by seat (event.Start (access n 1) (kind.Read x))

-- its read gives a value, and it commits
abbrev pub reads : ℕ → Name → List Entry
reads seat n = by seat (event.End (access n 1) (Commit (answer.Value (Number 0)))) ∷ by seat (event.End n (Commit answer.Nothing)) ∷ []

-- its read is in conflict, and it is aborted
abbrev pub fails : ℕ → Name → List Entry
fails seat n = by seat (event.End (access n 1) (Abort conflict)) ∷ by seat (event.End n (Abort conflict)) ∷ []

-- TRAILS

-- the top reads x, and commits
abbrev pub goes_on : Name → List Entry
goes_on n = by client (event.Start n (kind.Read x)) ∷ by client (event.End n (Commit (answer.Value (Number 0)))) ∷ commits

-- both begin, and the first fails
abbrev pub first_fails : List Entry
first_fails =
    user client top
    ∷ begins other_client first_child 1
    ∷ begins third_client second_child 2
    ∷ looks other_client first_child
    ∷ looks third_client second_child
    ∷ fails other_client first_child

-- it is tried again before the second commits
abbrev pub tried_again : List Entry
tried_again =
    first_fails
    ++ begins other_client third_child 1
    ∷ looks other_client third_child
    ∷ reads third_client second_child
    ++ reads other_client third_child
    ++ goes_on fourth_child

-- and fails again
abbrev pub fails_again : List Entry
fails_again =
    first_fails
    ++ begins other_client third_child 1
    ∷ looks other_client third_child
    ∷ fails other_client third_child
    ++ reads third_client second_child

-- the top is aborted for its last try
abbrev pub aborted : List Entry
aborted = fails_again ++ by client (event.End top (Abort (cause.Child third_child))) ∷ []

-- the top goes on
abbrev pub went_on : List Entry
went_on = fails_again ++ goes_on fourth_child

-- the second aborts the top, and the first is not tried again
abbrev pub stopped : List Entry
stopped =
    user client top
    ∷ begins other_client first_child 1
    ∷ begins third_client second_child 2
    ∷ looks other_client first_child
    ∷ by third_client (event.End top (Abort (cause.Asked second_child)))
    ∷ by third_client (event.End second_child (Abort (cause.Orphan top)))
    ∷ fails other_client first_child

-- The top is killed before the second begins, behind some entries of the first. The first ends as an orphan.
abbrev pub turned_back : List Entry → List Entry
turned_back entries =
    user client top
    ∷ begins other_client first_child 1
    ∷ entries
    ++ by client (event.End top (Abort cause.Killed))
    ∷ by other_client (event.End first_child (Abort (cause.Orphan top)))
    ∷ []

-- the first reads x meanwhile
abbrev pub read_meanwhile : List Entry
read_meanwhile = looks other_client first_child ∷ by other_client (event.End (access first_child 1) (Commit (answer.Value (Number 0)))) ∷ []

-- the first alone runs
abbrev pub one_left_out : List Entry
one_left_out = user client top ∷ begins other_client first_child 1 ∷ looks other_client first_child ∷ reads other_client first_child ++ goes_on second_child

-- the first fails, and is tried again before the second begins
abbrev pub tried_too_early : List Entry
tried_too_early =
    user client top
    ∷ begins other_client first_child 1
    ∷ looks other_client first_child
    ∷ fails other_client first_child
    ++ begins other_client second_child 1
    ∷ begins third_client third_child 2
    ∷ looks other_client second_child
    ∷ looks third_client third_child
    ∷ reads other_client second_child
    ++ reads third_client third_child
    ++ goes_on fourth_child

-- the first commits, and is tried again
abbrev pub tried_too_often : List Entry
tried_too_often =
    user client top
    ∷ begins other_client first_child 1
    ∷ begins third_client second_child 2
    ∷ looks other_client first_child
    ∷ looks third_client second_child
    ∷ reads other_client first_child
    ++ begins other_client third_child 1
    ∷ looks other_client third_child
    ∷ reads third_client second_child
    ++ reads other_client third_child
    ++ goes_on fourth_child
