use Rattle.std.proofs.Common.{◌≡◌, ℕ, [], ◌∷◌, arith, refl, sym, inl, inr}
use mathlib.Core.Bool.{true≢false}
use Rattle.qc_names.specs.Padded.{head_of}
use Rattle.qc_event.specs.Seats.{number_in}
use Rattle.rows_laws.specs.Trails.{top, top2}
use Rattle.rows_laws.proofs.runs_not_together.Goals as goal

pub returns-clause-not_in_script : goal.returns-clause-not_in_script
returns-clause-not_in_script c = λ f. true≢false (sym f.only)

pub returns-clause-swapped : goal.returns-clause-swapped
returns-clause-swapped c = λ f. f.each_runs.0.bodies_run.0.steps

pub returns-clause-third : goal.returns-clause-third
returns-clause-third c = λ f. f.each_runs.1.1.0.bodies_run

pub returns-clause-of_one_session : goal.returns-clause-of_one_session
returns-clause-of_one_session c = λ f. true≢false (sym f.each_runs.0.in_turn.in_order)

tops_apart : top ≡ top2 → ⊥
tops_apart same = let numbers = head_of (number_in 1 1) (number_in 1 2) [] [] same in omega (arith, numbers)

-- no step of either session names it
pub returns-clause-aborts_the_other : goal.returns-clause-aborts_the_other
returns-clause-aborts_the_other c = λ f. elim (f.as_asked top top2 refl) [
  | inl same ↦ tops_apart same
  | inr one ↦ elim one [
    | inl asks ↦ elim asks [
      | inl named ↦ absurd named
      | inr none ↦ absurd none
    ]
    | inr other ↦ elim other [
      | inl asks ↦ elim asks [
        | inl named ↦ absurd named
        | inr none ↦ absurd none
      ]
      | inr none ↦ absurd none
    ]
  ]
]
