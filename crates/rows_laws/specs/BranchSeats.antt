-- Trails in which children of a top are branches, or only seem to be, by the seats under which they run.
use Rattle.std.specs.Prelude.{ℕ, false, List, ◌∷◌, ◌++◌}
use Rattle.qc_config.specs.Val.{Number}
use Rattle.qc_event.specs.declared.event.Answer.TheVariants as answer
use Rattle.qc_event.specs.declared.event.Entry.{Entry}
use Rattle.qc_event.specs.declared.event.Event.TheVariants as event
use Rattle.qc_event.specs.declared.event.How.TheVariants.{Commit}
use Rattle.qc_event.specs.declared.event.Kind.TheVariants as kind
use Rattle.qc_script.specs.Plan.{Plan, Numbered}
use Rattle.rows_laws.specs.Branches.{third_child, read_then_done, begins, looks, reads, fails, goes_on}
use Rattle.rows_laws.specs.Trails.{client, other_client, third_client, x, top, first_child, second_child, by, user, body_of}
use Rattle.rows_laws.specs.Values.{commits}

-- BODIES

-- a child of a body that reads x, which is tried so often; then this
abbrev pub reader_then : ℕ → ℕ → Plan → Plan
reader_then body tries rest = Plan.child_then body tries false read_then_done rest

-- branches of bodies 1 and 2 at once
abbrev pub two_at_once : Plan
two_at_once = reader_then 1 1 (reader_then 2 1 Plan.done)

-- a branch of body 1, which is tried twice
abbrev pub tried_twice : Plan
tried_twice = reader_then 1 2 Plan.done

-- both branches; then read x
abbrev pub both : List Numbered
both = body_of (Plan.par_then two_at_once read_then_done)

-- the branch that is tried twice
abbrev pub one_twice : List Numbered
one_twice = body_of (Plan.par_then tried_twice Plan.done)

-- the second branch, and what is behind it
abbrev pub second_row : Plan
second_row = Plan.par_then (reader_then 2 1 Plan.done) read_then_done

-- a step for each branch; then read x
abbrev pub two_rows : List Numbered
two_rows = body_of (Plan.par_then (reader_then 1 1 Plan.done) second_row)

-- children of bodies 1 and 2 that are no branches; then read x
abbrev pub one_by_one : List Numbered
one_by_one = body_of (reader_then 1 1 (reader_then 2 1 read_then_done))

-- TRAILS

-- children of bodies 1 and 2 run at once, the second under this seat, and then the top reads x
abbrev pub at_once : ℕ → List Entry
at_once seat =
    user client top
    ∷ begins other_client first_child 1
    ∷ begins seat second_child 2
    ∷ looks other_client first_child
    ∷ looks seat second_child
    ∷ reads seat second_child
    ++ reads other_client first_child
    ++ goes_on third_child

-- both begin, the second under this seat, and then run one after the other
abbrev pub in_turn : ℕ → List Entry
in_turn seat =
    user client top
    ∷ begins other_client first_child 1
    ∷ begins seat second_child 2
    ∷ looks other_client first_child
    ∷ reads other_client first_child
    ++ looks seat second_child
    ∷ reads seat second_child
    ++ goes_on third_child

-- the second begins once the first has started its read
abbrev pub begins_late : List Entry
begins_late =
    user client top
    ∷ begins other_client first_child 1
    ∷ looks other_client first_child
    ∷ begins third_client second_child 2
    ∷ looks third_client second_child
    ∷ reads third_client second_child
    ++ reads other_client first_child
    ++ goes_on third_child

-- the second begins once the first has ended
abbrev pub in_a_row : ℕ → List Entry
in_a_row seat =
    user client top
    ∷ begins other_client first_child 1
    ∷ looks other_client first_child
    ∷ reads other_client first_child
    ++ begins seat second_child 2
    ∷ looks seat second_child
    ∷ reads seat second_child
    ++ goes_on third_child

-- a child of body 1 is tried again, under this seat
abbrev pub tried_under : ℕ → List Entry
tried_under seat =
    user client top
    ∷ begins other_client first_child 1
    ∷ looks other_client first_child
    ∷ fails other_client first_child
    ++ begins seat second_child 1
    ∷ looks seat second_child
    ∷ reads seat second_child
    ++ commits

-- it is tried again before the first try has ended
abbrev pub tried_at_once : List Entry
tried_at_once =
    user client top
    ∷ begins other_client first_child 1
    ∷ looks other_client first_child
    ∷ begins other_client second_child 1
    ∷ looks other_client second_child
    ∷ fails other_client first_child
    ++ reads other_client second_child
    ++ commits

-- the top marks session 1 as a branch runs
abbrev pub parent_marks : List Entry
parent_marks =
    user client top
    ∷ begins other_client first_child 1
    ∷ looks other_client first_child
    ∷ by client (event.Mark top 1)
    ∷ reads other_client first_child
    ++ commits

-- the top reads x as a branch runs
abbrev pub parent_reads : List Entry
parent_reads =
    user client top
    ∷ begins other_client first_child 1
    ∷ looks other_client first_child
    ∷ by client (event.Start second_child (kind.Read x))
    ∷ by client (event.End second_child (Commit (answer.Value (Number 0))))
    ∷ reads other_client first_child
    ++ commits

-- the top's read stands under another seat
abbrev pub reads_elsewhere : List Entry
reads_elsewhere = user client top ∷ by other_client (event.Start first_child (kind.Read x)) ∷ by other_client (event.End first_child (Commit (answer.Value (Number 0)))) ∷ commits
