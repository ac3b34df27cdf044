-- The script that is made of a number: four sessions of a hundred tops each, over eight records at five copies.
use Rattle.std.specs.Prelude.{ℕ, zero, suc, ◌+◌, ◌*◌, ◌%◌, ◌==◌, ◌||◌, Bool, false, if◌then◌else◌, List, [], ◌∷◌, ◌++◌, map, codes}
use Rattle.std.specs.Fmt.{decimal}
use Rattle.std.specs.List.{range_with_len}
use Rattle.qc_config.specs.Config.{Voting}
use Rattle.qc_config.specs.Val.{Number}
use Rattle.qc_event.specs.declared.event.Kind.TheVariants as kind
use Rattle.qc_event.specs.declared.table.Row.{Row}
use Rattle.qc_event.specs.declared.table.Table.{Table}
use Rattle.qc_net.specs.declared.link.Fate.{Fate}
use Rattle.qc_net.specs.declared.link.Fate.TheVariants.{Deliver, LoseAsk, LoseReply, Hold, Twice}
use Rattle.qc_script.specs.Plan.{Plan, Numbered, SessionPlan, ScriptPlan, manage_then, change_then, plus, row_of}
use Rattle.qc_script.specs.Steps.{all_before}

-- RECORDS

-- a vote at each copy, three of which read and three of which write
abbrev pub one_each : Voting
one_each = record { votes = 1 ∷ 1 ∷ 1 ∷ 1 ∷ 1 ∷ []; read = 3; write = 3 }

-- two votes at each copy, six of which read and five of which write
abbrev pub two_each : Voting
two_each = record { votes = 2 ∷ 2 ∷ 2 ∷ 2 ∷ 2 ∷ []; read = 6; write = 5 }

-- the record of this number, as r0
abbrev pub made_row : ℕ → Row
made_row rec = record { name = codes "r" ++ decimal rec; start = Number 0; config = one_each }

abbrev pub made_table : Table
made_table = record { copies = 5; records = map made_row (range_with_len 0 8) }

-- BODIES

-- A step, as what it makes of the plan of the steps after it.
abbrev pub Front : Type 0
Front = Plan → Plan

-- a body of this number that is tried once, and need not commit
abbrev pub made_body : ℕ → List Front → Numbered
made_body number steps = record { number = number; tries = 1; must = false; plan = all_before steps }

abbrev pub reads : ℕ → Front
reads rec = manage_then (kind.Read rec)

abbrev pub adds : ℕ → ℕ → Front
adds rec amount = change_then rec (λ old. plus old amount)

abbrev pub runs : Numbered → Front
runs body = Plan.child_then body.number body.tries body.must body.plan

abbrev pub runs_at_once : List Numbered → Front
runs_at_once bodies = Plan.par_then (row_of bodies)

-- this step only where it is so
abbrev pub only_where : Bool → Front → List Front
only_where so step = if so then step ∷ [] else []

-- TOPS, EACH BY ITS PLACE AMONG ALL OF THEM

-- the number of its record
abbrev pub record_at : ℕ → ℕ
record_at i = i % 8

-- what it adds
abbrev pub amount_at : ℕ → ℕ → ℕ
amount_at n i = (n % 10 + i) % 10 + 1

-- whether it runs children at once
abbrev pub at_once : ℕ → Bool
at_once i = i % 10 == 4

-- how many bodies it has, with those of its children
abbrev pub bodies_at : ℕ → ℕ
bodies_at i = if at_once i then 3 else 2

-- the number of its body: bodies are numbered as in a text, so those of all tops before it come first
abbrev pub number_at : ℕ → ℕ
number_at zero = 0
number_at (suc i) = number_at i + bodies_at i

-- its first child adds to its record
abbrev pub adding_at : ℕ → ℕ → Numbered
adding_at n i = made_body (number_at i + 1) (adds (record_at i) (amount_at n i) ∷ [])

-- its second child reads the next record
abbrev pub reading_at : ℕ → Numbered
reading_at i = made_body (number_at i + 2) (reads (record_at (i + 1)) ∷ [])

abbrev pub children_at : ℕ → ℕ → Front
children_at n i = if at_once i then runs_at_once (adding_at n i ∷ reading_at i ∷ []) else runs (adding_at n i)

-- One top has a copy crash, two reconfigure their records. Each has children and then reads its record. One in ten aborts
-- itself at the end.
abbrev pub steps_at : ℕ → ℕ → List Front
steps_at n i =
    only_where (i == 200) (Plan.crash_then 2)
    ++ only_where (i == 100 || i == 301) (manage_then (kind.Reconf (record_at i) two_each))
    ++ (children_at n i ∷ reads (record_at i) ∷ [])
    ++ only_where (i % 10 == 9) (Plan.abort_then 0)

abbrev pub top_at : ℕ → ℕ → Numbered
top_at n i = made_body (number_at i) (steps_at n i)

-- SESSIONS

-- the fates of a session's requests, over and over
abbrev pub made_fates : List Fate
made_fates = Deliver ∷ Deliver ∷ Hold ∷ LoseAsk ∷ Twice ∷ LoseReply ∷ Deliver ∷ []

abbrev pub made_session : ℕ → ℕ → SessionPlan
made_session n s = record { fates = made_fates; hold = 2; tops = map (top_at n) (range_with_len (100 * s) 100) }

-- the script that is made of a number
unfoldable pub made_plan : ℕ → ScriptPlan
made_plan n = record { table = made_table; patience = 4; sessions = map (made_session n) (range_with_len 0 4) }
