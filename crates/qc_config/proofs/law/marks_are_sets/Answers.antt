use Rattle.qc_config.proofs.Marks.{same_members, none_has, with_has}
use Rattle.qc_config.proofs.law.marks_are_sets.Goals as goal

pub returns-clause-empty : goal.returns-clause-empty
returns-clause-empty c = none_has 16

pub returns-clause-one_more : goal.returns-clause-one_more
returns-clause-one_more c = with_has

pub returns-clause-same : goal.returns-clause-same
returns-clause-same c = same_members
