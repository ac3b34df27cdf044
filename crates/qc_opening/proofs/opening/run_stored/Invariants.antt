-- The disks that the shop gave.
use Rattle.qc_opening.proofs.opening.run_stored.Given as goal

abbrev pub ghost-run_disks : goal.ghost-run_disks
ghost-run_disks g a = a.disks.items
