use Rattle.rows_laws.proofs.stops_at_no_crash.Goals as goal

pub returns-clause-nothing_done : goal.returns-clause-nothing_done
returns-clause-nothing_done c = λ f. f.each_runs.0.bodies_run.0.steps

pub returns-clause-set_left_out : goal.returns-clause-set_left_out
returns-clause-set_left_out c = λ f. let kinds = f.each_runs.0.bodies_run.0.steps.0 in cc
