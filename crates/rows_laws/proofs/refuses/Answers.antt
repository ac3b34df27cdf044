use Rattle.std.proofs.Common.{sym}
use mathlib.Core.Bool.{true≢false}
use Rattle.rows_laws.proofs.refuses.Goals as goal

pub returns-clause-read_before_set : goal.returns-clause-read_before_set
returns-clause-read_before_set c = λ f. true≢false (sym f.each_runs.0.in_turn.turns)

pub returns-clause-own_conflict : goal.returns-clause-own_conflict
returns-clause-own_conflict c = λ f. true≢false (sym f.each_runs.0.in_turn.turns)

pub returns-clause-dropped_steps : goal.returns-clause-dropped_steps
returns-clause-dropped_steps c = λ f. true≢false (sym f.each_runs.0.in_turn.turns)

pub returns-clause-late_commit : goal.returns-clause-late_commit
returns-clause-late_commit c = λ f. true≢false (sym f.each_runs.0.in_turn.in_order)

pub returns-clause-lost_elsewhere : goal.returns-clause-lost_elsewhere
returns-clause-lost_elsewhere c = λ f. true≢false (sym f.each_runs.0.messages)

pub returns-clause-elsewhere_lossy : goal.returns-clause-elsewhere_lossy
returns-clause-elsewhere_lossy c = λ f. true≢false (sym f.each_runs.0.messages)

pub returns-clause-stays_ready : goal.returns-clause-stays_ready
returns-clause-stays_ready c = λ f. true≢false (sym f.each_settled)

pub returns-clause-marked_elsewhere : goal.returns-clause-marked_elsewhere
returns-clause-marked_elsewhere c = λ f. f.each_runs.0.bodies_run.0.steps

pub returns-clause-two_seats : goal.returns-clause-two_seats
returns-clause-two_seats c = λ f. true≢false (sym f.each_runs.0.in_turn.turns)
