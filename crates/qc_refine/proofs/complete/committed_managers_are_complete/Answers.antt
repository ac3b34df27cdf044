-- Each clause is a lemma on managers.
use Rattle.qc_refine.proofs.Managers.Finished.{committed_done, manager_within}
use Rattle.qc_refine.proofs.complete.committed_managers_are_complete.Goals as goal

pub returns-clause-done : goal.returns-clause-done
returns-clause-done c = λ setting past m b given. committed_done setting past m b given

pub returns-clause-within : goal.returns-clause-within
returns-clause-within c = λ setting past m b. manager_within setting past m b
