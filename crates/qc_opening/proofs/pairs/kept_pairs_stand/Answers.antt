-- Each clause is a lemma on what pairs of disks keep.
use Rattle.qc_opening.proofs.KeptDisks.KeptPairs.CutOffPairs.{still_restored}
use Rattle.qc_opening.proofs.KeptDisks.KeptPairs.NextMounting.{alike_carry, first_start, restart, restores}
use Rattle.qc_opening.proofs.KeptDisks.KeptPairs.PairsStand.{stand}
use Rattle.qc_opening.proofs.KeptDisks.KeptPairs.RenewedImages.{renewed_restore}
use Rattle.qc_opening.proofs.pairs.kept_pairs_stand.Goals as goal

pub returns-clause-stands : goal.returns-clause-stands
returns-clause-stands c = stand

pub returns-clause-restarts : goal.returns-clause-restarts
returns-clause-restarts c = restart

pub returns-clause-carries : goal.returns-clause-carries
returns-clause-carries c = alike_carry

pub returns-clause-restores : goal.returns-clause-restores
returns-clause-restores c = restores

pub returns-clause-renewed : goal.returns-clause-renewed
returns-clause-renewed c = renewed_restore

pub returns-clause-cut_off : goal.returns-clause-cut_off
returns-clause-cut_off c = still_restored

pub returns-clause-first : goal.returns-clause-first
returns-clause-first c = first_start
