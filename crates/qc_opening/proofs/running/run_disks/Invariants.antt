-- The store was mounted from the disks that were given.
use Rattle.qc_opening.proofs.running.run_disks.Given as goal

abbrev pub ghost-run_mounted : goal.ghost-run_mounted
ghost-run_mounted g a = g.given
