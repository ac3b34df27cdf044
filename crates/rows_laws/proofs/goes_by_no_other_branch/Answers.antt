use Rattle.std.proofs.Common.{◌≡◌, sym, inl, inr, true, false, List, [], ◌∷◌}
use mathlib.Core.Bool.{true≢false}
use Rattle.std.specs.Prelude.{reverse}
use Rattle.qc_interp.specs.Deeds.{Deed}
use Rattle.rows_laws.specs.Branches.{two_branches, read_then_done, one_left_out, turned_back, read_meanwhile, went_on, tried_too_early, tried_too_often}
use Rattle.rows_laws.specs.BranchSeats.{two_at_once, begins_late, in_a_row}
use Rattle.rows_laws.specs.Trails.{third_client}
use Rattle.rows_laws.proofs.Fronts.{at_front, no, some_further}
use Rattle.rows_laws.proofs.goes_by_no_other_branch.Goals as goal

pub returns-clause-left_out : goal.returns-clause-left_out
returns-clause-left_out c = λ f. elim (at_front (reverse one_left_out) (two_branches false) read_then_done f.0.steps) [
  | inl h ↦ some_further h.2.0
  | inr more ↦ elim more [
    | inl h ↦ some_further h.2.0
    | inr h ↦ no h.0.0
  ]
]

pub returns-clause-goes_on : goal.returns-clause-goes_on
returns-clause-goes_on c = λ f. elim (at_front (reverse went_on) (two_branches true) read_then_done f.0.steps) [
  | inl h ↦ some_further h.2.0
  | inr more ↦ elim more [
    | inl h ↦ some_further h.2.0
    | inr more ↦ elim more [
      | inl h ↦ some_further h.2.0
      | inr more ↦ elim more [
        | inl h ↦ some_further h.2.0
        | inr h ↦ no h.0.0
      ]
    ]
  ]
]

pub returns-clause-too_early : goal.returns-clause-too_early
returns-clause-too_early c = λ f. elim (at_front (reverse tried_too_early) (two_branches false) read_then_done f.0.steps) [
  | inl h ↦ some_further h.2.0
  | inr more ↦ elim more [
    | inl h ↦ some_further h.2.0
    | inr more ↦ elim more [
      | inl h ↦ no h.0.0
      | inr more ↦ elim more [
        | inl h ↦ no h.0.0
        | inr h ↦ no h.0.0
      ]
    ]
  ]
]

pub returns-clause-too_often : goal.returns-clause-too_often
returns-clause-too_often c = λ f. elim (at_front (reverse tried_too_often) (two_branches false) read_then_done f.0.steps) [
  | inl h ↦ some_further h.2.0
  | inr more ↦ elim more [
    | inl h ↦ some_further h.2.0
    | inr more ↦ elim more [
      | inl h ↦ let manager = h.2.0 in absurd cc
      | inr more ↦ elim more [
        | inl h ↦ no h.0.0
        | inr h ↦ no h.0.0
      ]
    ]
  ]
]

-- the first does something before the second begins
pub returns-clause-begins_late : goal.returns-clause-begins_late
returns-clause-begins_late c = λ f. elim (at_front (reverse begins_late) two_at_once read_then_done f.0.steps) [
  | inl h ↦ some_further h.2.0
  | inr more ↦ elim more [
    | inl h ↦ some_further h.2.0
    | inr more ↦ elim more [
      | inl h ↦ no h.0.2
      | inr h ↦ no h.0.0
    ]
  ]
]

pub returns-clause-begins_at_last : goal.returns-clause-begins_at_last
returns-clause-begins_at_last c = λ f. elim (at_front (reverse (in_a_row third_client)) two_at_once read_then_done f.0.steps) [
  | inl h ↦ some_further h.2.0
  | inr more ↦ elim more [
    | inl h ↦ some_further h.2.0
    | inr more ↦ elim more [
      | inl h ↦ no h.0.2
      | inr h ↦ no h.0.0
    ]
  ]
]

-- the first does nothing, where the second was not begun
pub returns-clause-ran_alone : goal.returns-clause-ran_alone
returns-clause-ran_alone c = λ f. elim (at_front (reverse (turned_back read_meanwhile)) (two_branches true) read_then_done f.0.steps) [
  | inl h ↦ some_further h.2.0
  | inr h ↦ some_further h.1.0.0.1.0
]
