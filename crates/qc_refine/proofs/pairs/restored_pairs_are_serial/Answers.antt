-- Each clause is a lemma on records or on images of pairs.
use Rattle.qc_refine.proofs.Restoring.PairImages.{fresh_pairs_stand, pairs_carry_final, pairs_restore_one, pairs_restore_some}
use Rattle.qc_refine.proofs.Restoring.RestoredSound.{legal_too, restored_sound}
use Rattle.qc_refine.proofs.pairs.restored_pairs_are_serial.Goals as goal

pub returns-clause-legal : goal.returns-clause-legal
returns-clause-legal c = legal_too

pub returns-clause-records : goal.returns-clause-records
returns-clause-records c = λ first epoch setting values before now past legal sound s. restored_sound first epoch setting before now past legal s values sound

pub returns-clause-images : goal.returns-clause-images
returns-clause-images c = λ table images base epoch past s tuples r values legal sound. pairs_carry_final table images base epoch past s tuples r values legal sound

pub returns-clause-some : goal.returns-clause-some
returns-clause-some c = pairs_restore_some

pub returns-clause-one : goal.returns-clause-one
returns-clause-one c = pairs_restore_one

pub returns-clause-fresh : goal.returns-clause-fresh
returns-clause-fresh c = fresh_pairs_stand
