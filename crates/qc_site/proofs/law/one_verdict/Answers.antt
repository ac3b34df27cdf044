-- Verdicts, of bodies and of images.
use Rattle.qc_site.proofs.Verdicts.{fault_or_none, first_or_none, one_fault, one_first}
use Rattle.qc_site.proofs.law.one_verdict.Goals as goal

pub returns-clause-one : goal.returns-clause-one
returns-clause-one c = one_fault

pub returns-clause-not_both : goal.returns-clause-not_both
returns-clause-not_both c = fault_or_none

pub returns-clause-one_image : goal.returns-clause-one_image
returns-clause-one_image c = one_first

pub returns-clause-not_both_image : goal.returns-clause-not_both_image
returns-clause-not_both_image c = first_or_none
