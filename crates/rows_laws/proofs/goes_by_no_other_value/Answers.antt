use Rattle.std.proofs.Common.{◌≡◌, ℕ, sym, inl, inr, arith}
use mathlib.Core.Bool.{true≢false}
use Rattle.std.specs.Prelude.{Option, Some}
use Rattle.qc_config.specs.Val.{Number}
use Rattle.qc_event.specs.declared.event.Kind.{Kind}
use Rattle.qc_event.specs.declared.event.Kind.TheVariants as kind
use Rattle.rows_laws.specs.Trails.{x}
use Rattle.rows_laws.specs.Values.{last_value}
use Rattle.rows_laws.proofs.goes_by_no_other_value.Goals as goal

abbrev written : ℕ → Option Kind
written value = Some (kind.Write x (Number value))

same_written : (first second : ℕ) → written first ≡ written second → first ≡ second
same_written first second same = cc

-- a value is written as the step changes it
pub returns-clause-nothing_added : goal.returns-clause-nothing_added
returns-clause-nothing_added c = λ f. let same = same_written 4 7 f.each_runs.0.bodies_run.0.steps.2.0 in absurd (omega (arith, same))

pub returns-clause-stops_at_the_last : goal.returns-clause-stops_at_the_last
returns-clause-stops_at_the_last c = λ f. let same = same_written last_value 0 f.each_runs.0.bodies_run.0.steps.2.0 in absurd (omega (arith, same))

pub returns-clause-not_written : goal.returns-clause-not_written
returns-clause-not_written c = λ f. f.each_runs.0.bodies_run.0.steps.2

pub returns-clause-stops_at_0 : goal.returns-clause-stops_at_0
returns-clause-stops_at_0 c = λ f. let same = same_written 0 last_value f.each_runs.0.bodies_run.0.steps.2.0 in absurd (omega (arith, same))

pub returns-clause-fails_with_enough : goal.returns-clause-fails_with_enough
returns-clause-fails_with_enough c = λ f. elim f.each_runs.0.bodies_run.0.steps.2 [
  | inl committed ↦ absurd committed
  | inr early ↦ true≢false (sym early)
]

pub returns-clause-holds_with_less : goal.returns-clause-holds_with_less
returns-clause-holds_with_less c = λ f. elim f.each_runs.0.bodies_run.0.steps.2 [
  | inl asked ↦ absurd cc
  | inr before ↦ elim before [
    | inl early ↦ absurd early
    | inr killed ↦ absurd killed
  ]
]

-- behind a text a step only aborts its transaction
pub returns-clause-text_added : goal.returns-clause-text_added
returns-clause-text_added c = λ f. f.each_runs.0.bodies_run.0.steps.2

pub returns-clause-text_left : goal.returns-clause-text_left
returns-clause-text_left c = λ f. elim f.each_runs.0.bodies_run.0.steps.2 [
  | inl asked ↦ absurd cc
  | inr before ↦ elim before [
    | inl early ↦ absurd early
    | inr killed ↦ absurd killed
  ]
]

pub returns-clause-text_enough : goal.returns-clause-text_enough
returns-clause-text_enough c = λ f. elim f.each_runs.0.bodies_run.0.steps.2 [
  | inl asked ↦ absurd cc
  | inr before ↦ elim before [
    | inl early ↦ absurd early
    | inr killed ↦ absurd killed
  ]
]
