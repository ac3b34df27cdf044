use Rattle.std.proofs.Common.{inl, inr}
use mathlib.Core.Bool.{true≢false}
use Rattle.rows_laws.proofs.goes_by_no_other_child.Goals as goal

pub returns-clause-goes_on : goal.returns-clause-goes_on
returns-clause-goes_on c = λ f. let none = f.each_runs.0.bodies_run.0.steps.1.0 in absurd cc

pub returns-clause-aborted : goal.returns-clause-aborted
returns-clause-aborted c = λ f. f.each_runs.0.bodies_run.0.steps.1

-- the child's own child was an orphan
pub returns-clause-no_orphan : goal.returns-clause-no_orphan
returns-clause-no_orphan c = λ f. elim f.each_runs.0.bodies_run.0.steps.0.2.1.1 [
  | inl is ↦ true≢false is.0
  | inr early ↦ absurd early
]
