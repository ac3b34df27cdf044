use Rattle.std.proofs.Common.{refl, sym, inl, inr, arith}
use Rattle.std.specs.Prelude.{reverse}
use mathlib.Core.Bool.{true≢false}
use Rattle.qc_interp.specs.Asking.{Asks}
use Rattle.qc_interp.specs.Deeds.{deeds}
use Rattle.rows_laws.specs.Marks.{killed_asks}
use Rattle.rows_laws.specs.Trails.{top, grandchild, abort_body}
use Rattle.rows_laws.proofs.goes_by_no_other_mark.Goals as goal

-- who was killed did not come to the step
top_not_named : Asks (reverse killed_asks) top (abort_body 2).plan (deeds (reverse killed_asks) top) grandchild top → ⊥
top_not_named (inl (inl h)) = h.2 tt
top_not_named (inl (inr h)) = absurd h
top_not_named (inr h) = absurd h

pub returns-clause-of_no_step : goal.returns-clause-of_no_step
returns-clause-of_no_step c = λ f. f.each_runs.0.bodies_run.0.steps

pub returns-clause-left_out : goal.returns-clause-left_out
returns-clause-left_out c = λ f. f.each_runs.0.bodies_run.0.steps

pub returns-clause-left_out_at_last : goal.returns-clause-left_out_at_last
returns-clause-left_out_at_last c = λ f. elim f.each_runs.0.bodies_run.0.steps [
  | inl asked ↦ absurd asked
  | inr killed ↦ absurd killed
]

pub returns-clause-twice : goal.returns-clause-twice
returns-clause-twice c = λ f. f.each_runs.0.bodies_run.0.steps.1

pub returns-clause-another_session : goal.returns-clause-another_session
returns-clause-another_session c = λ f. let same = f.each_runs.0.bodies_run.0.steps.0 in omega (arith, same)

pub returns-clause-by_another : goal.returns-clause-by_another
returns-clause-by_another c = λ f. f.each_runs.0.bodies_run.0.steps.1

pub returns-clause-another_seat : goal.returns-clause-another_seat
returns-clause-another_seat c = λ f. true≢false (sym f.each_runs.0.in_turn.turns)

pub returns-clause-goes_on : goal.returns-clause-goes_on
returns-clause-goes_on c = λ f. let none = f.each_runs.0.bodies_run.0.steps.1.0 in absurd cc

pub returns-clause-commits : goal.returns-clause-commits
returns-clause-commits c = λ f. elim f.each_runs.0.bodies_run.0.steps.1.1 [
  | inl asked ↦ absurd asked
  | inr killed ↦ absurd killed
]

pub returns-clause-killed_asks : goal.returns-clause-killed_asks
returns-clause-killed_asks c = λ f. elim (f.as_asked top grandchild refl) [
  | inl same ↦ absurd cc
  | inr one ↦ elim one [
    | inl asks ↦ elim asks [
      | inl named ↦ top_not_named named
      | inr none ↦ absurd none
    ]
    | inr none ↦ absurd none
  ]
]
