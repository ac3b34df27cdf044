use Rattle.std.proofs.Common.{sym, inl, inr}
use mathlib.Core.Bool.{true≢false}
use Rattle.rows_laws.proofs.begins_otherwise.Goals as goal

pub returns-clause-ready_too_soon : goal.returns-clause-ready_too_soon
returns-clause-ready_too_soon c = λ f. elim f.each_runs.0.bodies_run.0.steps.2 [
  | inl early ↦ absurd early
  | inr running ↦ absurd (true≢false running.1)
]

pub returns-clause-set_skipped : goal.returns-clause-set_skipped
returns-clause-set_skipped c = λ f. let kinds = f.each_runs.0.bodies_run.0.steps.0 in cc

pub returns-clause-read_before_set : goal.returns-clause-read_before_set
returns-clause-read_before_set c = λ f. true≢false (sym f.each_runs.0.in_turn.turns)

pub returns-clause-cut_off : goal.returns-clause-cut_off
returns-clause-cut_off c = λ f. true≢false (sym f.each_settled)
