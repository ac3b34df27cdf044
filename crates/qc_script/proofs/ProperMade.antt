-- The script that is made of a number is proper.
use Rattle.std.proofs.Common.{ℕ, zero, suc, ◌+◌, ◌*◌, ◌%◌, ◌<◌, Bool, true, false, List, [], ◌∷◌, ◌++◌, map, refl, arith}
use Rattle.std.specs.Prelude.{◌==◌, ◌||◌, if◌then◌else◌}
use Rattle.std.specs.List.{AllByRecursion, range_with_len}
use Rattle.qc_config.proofs.Faults.{legal_unless_fault}
use Rattle.qc_event.specs.Base.{IsConfigFor}
use Rattle.qc_event.specs.declared.event.Kind.TheVariants as kind
use Rattle.qc_script.specs.MadePlan.{Front, one_each, two_each, made_row, record_at, amount_at, at_once, only_where, reads, children_at, adding_at, reading_at, runs, runs_at_once, steps_at, top_at, made_session, made_plan}
use Rattle.qc_script.specs.Plan.{Plan, manage_then, number_in, plus, PlanWithin, TopsWithin, SessionWithin, SessionsWithin}
use Rattle.qc_script.specs.Reading.{IsProper, IsProperRow}
use Rattle.qc_script.specs.Steps.{all_before}
use Rattle.qc_script.proofs.Proper.{changed_within}
use Rattle.qc_script.proofs.NumbersMade.{branches_differ, sessions_number}

-- RECORDS

one_each_fits : IsConfigFor 5 one_each
one_each_fits = let legal = legal_unless_fault one_each.votes 3 3 refl in record { legal = legal; for_copies = refl }

two_each_fits : IsConfigFor 5 two_each
two_each_fits = let legal = legal_unless_fault two_each.votes 6 5 refl in record { legal = legal; for_copies = refl }

rows_proper : (rec n : ℕ) → AllByRecursion (IsProperRow 5) (map made_row (range_with_len rec n))
rows_proper rec zero = tt
rows_proper rec (suc n) = (one_each_fits, rows_proper (rec + 1) n)

-- TOPS

-- a plan of a top over eight records at five copies
abbrev Within : Plan → Type 0
Within plan = PlanWithin 5 8 1 plan

-- a step before a plan within bounds
abbrev Keeps : Front → Type 0
Keeps step = (rest : Plan) → Within rest → Within (step rest)

all_keep : (steps : List Front) → AllByRecursion Keeps steps → Within (all_before steps)
all_keep [] keep = tt
all_keep (step ∷ steps) keep = keep.0 (all_before steps) (all_keep steps keep.1)

both_keep : (xs ys : List Front) → AllByRecursion Keeps xs → AllByRecursion Keeps ys → AllByRecursion Keeps (xs ++ ys)
both_keep [] ys x y = y
both_keep (step ∷ xs) ys x y = (x.0, both_keep xs ys x.1 y)

two_keep : (a b : Front) → Keeps a → Keeps b → AllByRecursion Keeps (a ∷ b ∷ [])
two_keep a b x y = (x, (y, tt))

where_keeps : (so : Bool) (step : Front) → Keeps step → AllByRecursion Keeps (only_where so step)
where_keeps true step keeps = (keeps, tt)
where_keeps false step keeps = tt

is_record : (i : ℕ) → record_at i < 8
is_record i = omega arith

adding_within : (n i : ℕ) → PlanWithin 5 8 2 (adding_at n i).plan
adding_within n i = (is_record i, λ given. changed_within 5 8 2 (record_at i) (λ old. plus old (amount_at n i)) Plan.done (number_in given) (omega arith) (is_record i) tt)

children_keep : (n i : ℕ) (b : Bool) → Keeps (if b then runs_at_once (adding_at n i ∷ reading_at i ∷ []) else runs (adding_at n i))
children_keep n i true = λ rest within. (
  tt,
  omega arith,
  omega arith,
  (omega arith, (omega arith, omega arith), adding_within n i, (omega arith, (omega arith, omega arith), (is_record (i + 1), λ _. tt), tt)),
  within,
  branches_differ n i,
)
children_keep n i false = λ rest within. (omega arith, (omega arith, omega arith), adding_within n i, within)

crash_keeps : Keeps (Plan.crash_then 2)
crash_keeps rest within = (omega arith, within)

reconf_keeps : (i : ℕ) → Keeps (manage_then (kind.Reconf (record_at i) two_each))
reconf_keeps i rest within = ((is_record i, two_each_fits), λ _. within)

read_keeps : (i : ℕ) → Keeps (reads (record_at i))
read_keeps i rest within = (is_record i, λ _. within)

abort_keeps : Keeps (Plan.abort_then 0)
abort_keeps rest within = (omega arith, within)

steps_keep : (n i : ℕ) → AllByRecursion Keeps (steps_at n i)
steps_keep n i =
    let crash = only_where (i == 200) (Plan.crash_then 2) in
    let reconf = only_where (i == 100 || i == 301) (manage_then (kind.Reconf (record_at i) two_each)) in
    let amid = children_at n i ∷ reads (record_at i) ∷ [] in
    let last = only_where (i % 10 == 9) (Plan.abort_then 0) in
    both_keep (crash ++ reconf ++ amid) last (both_keep (crash ++ reconf) amid (both_keep crash reconf
    (where_keeps (i == 200) (Plan.crash_then 2) crash_keeps)
    (where_keeps (i == 100 || i == 301) (manage_then (kind.Reconf (record_at i) two_each)) (reconf_keeps i)))
    (two_keep (children_at n i) (reads (record_at i)) (children_keep n i (at_once i)) (read_keeps i)))
    (where_keeps (i % 10 == 9) (Plan.abort_then 0) abort_keeps)

top_within : (n i : ℕ) → Within (all_before (steps_at n i))
top_within n i = all_keep (steps_at n i) (steps_keep n i)

tops_within : (n first many : ℕ) → TopsWithin 5 8 (map (top_at n) (range_with_len first many))
tops_within n first zero = tt
tops_within n first (suc many) = ((omega arith, omega arith), top_within n first, tops_within n (first + 1) many)

-- SESSIONS

session_within : (n s : ℕ) → SessionWithin 5 8 (made_session n s)
session_within n s = record { few_fates = omega arith; some_hold = omega arith; short_hold = omega arith; tops = tops_within n (100 * s) 100 }

sessions_within : (n first many : ℕ) → SessionsWithin 5 8 (map (made_session n) (range_with_len first many))
sessions_within n first zero = tt
sessions_within n first (suc many) = (session_within n first, sessions_within n (first + 1) many)

pub made_proper : (n : ℕ) → IsProper (made_plan n)
unfolding made_plan
made_proper n = record {
  some_copy = omega arith;
  few_copies = omega arith;
  some_patience = omega arith;
  little_patience = omega arith;
  some_records = omega arith;
  few_records = omega arith;
  rows = rows_proper 0 8;
  some_sessions = omega arith;
  few_sessions = omega arith;
  sessions = sessions_within n 0 4;
  numbered = sessions_number n 0 4;
}
