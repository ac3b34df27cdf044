-- Each clause is a lemma on pairs.
use Rattle.qc_refine.proofs.Restoring.FoldedPairs.{ended_before, ended_still, folded_sound, open_restores, restore_alike, seen_still, settled_ended}
use Rattle.qc_refine.proofs.folded.folded_pairs_restore_alike.Goals as goal

pub returns-clause-held : goal.returns-clause-held
returns-clause-held c = λ first epoch setting before now past legal s ended. open_restores first epoch setting before now past legal s ended

pub returns-clause-still : goal.returns-clause-still
returns-clause-still c = seen_still

pub returns-clause-alike : goal.returns-clause-alike
returns-clause-alike c = λ first first' epoch setting before now now' past legal s folded. restore_alike first epoch setting before now past legal s first' now' folded

pub returns-clause-sound : goal.returns-clause-sound
returns-clause-sound c = λ first first' epoch setting values before now now' past legal sound s folded. folded_sound first epoch setting before now past legal s first' now' folded values sound

pub returns-clause-ended : goal.returns-clause-ended
returns-clause-ended c = settled_ended

pub returns-clause-goes_on : goal.returns-clause-goes_on
returns-clause-goes_on c = ended_still

pub returns-clause-was_so : goal.returns-clause-was_so
returns-clause-was_so c = ended_before
