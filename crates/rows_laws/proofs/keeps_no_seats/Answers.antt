use Rattle.std.proofs.Common.{◌≡◌, sym, inl, inr, true, false, List, [], ◌∷◌}
use mathlib.Core.Bool.{true≢false}
use Rattle.std.specs.Prelude.{reverse}
use Rattle.qc_interp.specs.Deeds.{Deed}
use Rattle.qc_script.specs.Plan.{Plan}
use Rattle.rows_laws.specs.Branches.{read_then_done}
use Rattle.rows_laws.specs.BranchSeats.{reader_then, two_at_once, tried_twice, second_row, at_once, in_turn, tried_under}
use Rattle.rows_laws.specs.Trails.{client, other_client, third_client}
use Rattle.rows_laws.proofs.Fronts.{at_front, no, some_further}
use Rattle.rows_laws.proofs.keeps_no_seats.Goals as goal

-- who is no branch does not stand beside its parent
pub returns-clause-no_branches : goal.returns-clause-no_branches
returns-clause-no_branches c = λ f. no f.0.steps.0.0

pub returns-clause-no_branches_in_a_row : goal.returns-clause-no_branches_in_a_row
returns-clause-no_branches_in_a_row c = λ f. no f.0.steps.0.0

pub returns-clause-reads_elsewhere : goal.returns-clause-reads_elsewhere
returns-clause-reads_elsewhere c = λ f. no f.0.steps.1

-- a branch has no seat of its own
pub returns-clause-one_seat : goal.returns-clause-one_seat
returns-clause-one_seat c = λ f. elim (at_front (reverse (in_turn other_client)) two_at_once read_then_done f.0.steps) [
  | inl h ↦ some_further h.2.0
  | inr more ↦ elim more [
    | inl h ↦ some_further h.2.0
    | inr more ↦ elim more [
      | inl h ↦ no h.0.1
      | inr h ↦ no h.0.0
    ]
  ]
]

pub returns-clause-parents_seat : goal.returns-clause-parents_seat
returns-clause-parents_seat c = λ f. elim (at_front (reverse (in_turn client)) two_at_once read_then_done f.0.steps) [
  | inl h ↦ some_further h.2.0
  | inr more ↦ elim more [
    | inl h ↦ some_further h.2.0
    | inr more ↦ elim more [
      | inl h ↦ no h.0.1
      | inr h ↦ no h.0.0
    ]
  ]
]

pub returns-clause-tried_elsewhere : goal.returns-clause-tried_elsewhere
returns-clause-tried_elsewhere c = λ f. elim (at_front (reverse (tried_under third_client)) tried_twice Plan.done f.0.steps) [
  | inl h ↦ some_further h.2.0
  | inr more ↦ elim more [
    | inl h ↦ some_further h.2.0
    | inr h ↦ no h.0.1
  ]
]

-- the next step begins too soon
pub returns-clause-steps_at_once : goal.returns-clause-steps_at_once
returns-clause-steps_at_once c = λ f. elim (at_front (reverse (at_once third_client)) (reader_then 1 1 Plan.done) second_row f.0.steps) [
  | inl h ↦ some_further h.2.0
  | inr more ↦ elim more [
    | inl h ↦ no h.0.3
    | inr more ↦ elim more [
      | inl h ↦ no h.0.0
      | inr h ↦ no h.0.0
    ]
  ]
]
