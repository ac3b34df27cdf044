-- The bodies of the script that is made of a number are numbered from 0 on.
use Rattle.std.proofs.Common.{◌≡◌, ℕ, zero, suc, ◌+◌, ◌*◌, ◌%◌, Bool, true, false, List, [], ◌∷◌, ◌++◌, map, refl, sym, ap, subst, arith}
use Rattle.std.specs.Prelude.{◌==◌, ◌||◌, if◌then◌else◌}
use Rattle.std.specs.List.{IsDistinct, range_with_len}
use Rattle.qc_event.specs.declared.event.Kind.{Kind}
use Rattle.qc_event.specs.declared.event.Kind.TheVariants as kind
use Rattle.qc_script.specs.BodyNumbers.{NumberedOn, SessionsNumberedOn}
use Rattle.qc_script.specs.MadePlan.{Front, two_each, record_at, amount_at, at_once, number_at, only_where, adding_at, reading_at, reads, runs, runs_at_once, children_at, steps_at, top_at, made_session}
use Rattle.qc_script.specs.Plan.{Plan, manage_then, number_in, plus, row_of, row_numbers}
use Rattle.qc_script.specs.Steps.{all_before}
use Rattle.qc_script.proofs.Numbering.{changed_on, row_distinct}

-- STEPS IN FRONT OF A PLAN

through : List Front → Plan → Plan
through [] rest = rest
through (step ∷ steps) rest = step (through steps rest)

both_through : (xs ys : List Front) (rest : Plan) → through (xs ++ ys) rest ≡ through xs (through ys rest)
unfolding through
both_through [] ys rest = refl
both_through (step ∷ xs) ys rest = ap step (both_through xs ys rest)

all_through : (steps : List Front) → all_before steps ≡ through steps Plan.done
unfolding through
all_through [] = refl
all_through (step ∷ steps) = ap step (all_through steps)

-- the bodies of steps have the numbers from the one up to below the other, in front of any plan that goes on from there
abbrev Numbers : ℕ → ℕ → List Front → Type 0
Numbers next after steps = (last : ℕ) (rest : Plan) → NumberedOn after last rest → NumberedOn next last (through steps rest)

one_numbers : (next after : ℕ) (step : Front) → ((last : ℕ) (rest : Plan) → NumberedOn after last rest → NumberedOn next last (step rest)) → Numbers next after (step ∷ [])
unfolding through
one_numbers next after step on last rest h = on last rest h

both_number : (next between after : ℕ) (xs ys : List Front) → Numbers next between xs → Numbers between after ys → Numbers next after (xs ++ ys)
both_number next between after xs ys x y last rest h = subst (NumberedOn next last) (sym (both_through xs ys rest)) (x last (through ys rest) (y last rest h))

-- a step without bodies
where_numbers : (n : ℕ) (so : Bool) (step : Front) → ((last : ℕ) (rest : Plan) → NumberedOn n last rest → NumberedOn n last (step rest)) → Numbers n n (only_where so step)
unfolding through
where_numbers n true step on last rest h = on last rest h
where_numbers n false step on last rest h = h

manage_on : (k : Kind) (next last : ℕ) (rest : Plan) → NumberedOn next last rest → NumberedOn next last (manage_then k rest)
manage_on k next last rest h = λ given. h

-- TOPS

adding_on : (n i : ℕ) → NumberedOn (number_at i + 1 + 1) (number_at i + 2) (adding_at n i).plan
adding_on n i given = changed_on (number_at i + 1 + 1) (number_at i + 2) (record_at i) (λ old. plus old (amount_at n i)) Plan.done (number_in given) (omega arith)

row_on : (n i : ℕ) → NumberedOn (number_at i + 1) (number_at i + 3) (row_of (adding_at n i ∷ reading_at i ∷ []))
row_on n i = (refl, (number_at i + 2, adding_on n i, (refl, (number_at i + 3, (λ given. omega arith), refl))))

children_on : (n i : ℕ) (b : Bool) (last : ℕ) (rest : Plan) → NumberedOn (number_at i + (if b then 3 else 2)) last rest
    → NumberedOn (number_at i + 1) last ((if b then runs_at_once (adding_at n i ∷ reading_at i ∷ []) else runs (adding_at n i)) rest)
children_on n i true last rest h = (number_at i + 3, row_on n i, h)
children_on n i false last rest h = (refl, (number_at i + 2, adding_on n i, h))

-- those that run at once have different numbers
pub branches_differ : (n i : ℕ) → IsDistinct ◌==◌ (row_numbers (row_of (adding_at n i ∷ reading_at i ∷ [])))
branches_differ n i = row_distinct (number_at i + 1) (number_at i + 3) (row_of (adding_at n i ∷ reading_at i ∷ [])) (row_on n i)

steps_on : (n i : ℕ) → Numbers (number_at i + 1) (number_at (suc i)) (steps_at n i)
steps_on n i =
    let first = number_at i + 1 in
    let after = number_at (suc i) in
    let crash = only_where (i == 200) (Plan.crash_then 2) in
    let reconf = only_where (i == 100 || i == 301) (manage_then (kind.Reconf (record_at i) two_each)) in
    let children = children_at n i ∷ [] in
    let read = reads (record_at i) ∷ [] in
    let last = only_where (i % 10 == 9) (Plan.abort_then 0) in
    both_number first after after (crash ++ reconf ++ (children ++ read)) last
    (both_number first first after (crash ++ reconf) (children ++ read)
    (both_number first first first crash reconf
    (where_numbers first (i == 200) (Plan.crash_then 2) (λ end rest h. h))
    (where_numbers first (i == 100 || i == 301) (manage_then (kind.Reconf (record_at i) two_each)) (manage_on (kind.Reconf (record_at i) two_each) first)))
    (both_number first after after children read
    (one_numbers first after (children_at n i) (children_on n i (at_once i)))
    (one_numbers after after (reads (record_at i)) (manage_on (kind.Read (record_at i)) after))))
    (where_numbers after (i % 10 == 9) (Plan.abort_then 0) (λ end rest h. h))

plan_on : (n i : ℕ) → NumberedOn (number_at i + 1) (number_at (suc i)) (all_before (steps_at n i))
plan_on n i = subst (NumberedOn (number_at i + 1) (number_at (suc i))) (sym (all_through (steps_at n i))) (steps_on n i (number_at (suc i)) Plan.done refl)

tops_on : (n first many : ℕ) → NumberedOn (number_at first) (number_at (first + many)) (row_of (map (top_at n) (range_with_len first many)))
tops_on n first zero = ap number_at (omega arith)
tops_on n first (suc many) =
    let plan = plan_on n first in
    let later = tops_on n (first + 1) many in
    let next : first + 1 ≡ suc first = omega arith in
    let end : first + 1 + many ≡ first + suc many = omega arith in
    let row = row_of (map (top_at n) (range_with_len (first + 1) many)) in
    let rest = subst (λ k. NumberedOn (number_at k) (number_at (first + suc many)) row) next (subst (λ k. NumberedOn (number_at (first + 1)) (number_at k) row) end later) in
    (refl, (number_at (suc first), plan, rest))

-- SESSIONS

pub sessions_number : (n first many : ℕ) → SessionsNumberedOn (number_at (100 * first)) (map (made_session n) (range_with_len first many))
sessions_number n first zero = tt
sessions_number n first (suc many) =
    let next : 100 * (first + 1) ≡ 100 * first + 100 = omega arith in (
      number_at (100 * first + 100),
      tops_on n (100 * first) 100,
      subst (λ k. SessionsNumberedOn (number_at k) (map (made_session n) (range_with_len (first + 1) many))) next (sessions_number n (first + 1) many),
    )
