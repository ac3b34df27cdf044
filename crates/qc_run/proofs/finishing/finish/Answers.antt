use Rattle.qc_run.proofs.finishing.finish.Goals as goal

pub returns-in-Err-clause-wrote : goal.returns-in-Err-clause-wrote
returns-in-Err-clause-wrote g c = c.halt.ensures.wrote _
