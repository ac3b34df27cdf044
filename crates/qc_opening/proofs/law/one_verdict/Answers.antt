-- One verdict of a store's images, by those of each pair.
use Rattle.qc_opening.specs.Images.{images_in_pairs}
use Rattle.qc_opening.proofs.Mountings.Verdicts.{one_of_pairs, pairs_fault_or_none}
use Rattle.qc_opening.proofs.law.one_verdict.Goals as goal

pub returns-clause-one : goal.returns-clause-one
returns-clause-one c = λ table limit images bad other one two.
    one_of_pairs table limit c.one_verdict.ensures.one c.one_verdict.ensures.not_both (images_in_pairs table images) bad other one two

pub returns-clause-not_both : goal.returns-clause-not_both
returns-clause-not_both c = λ table limit images bad one sound.
    pairs_fault_or_none table limit c.one_verdict.ensures.one c.one_verdict.ensures.not_both (images_in_pairs table images) bad one sound
