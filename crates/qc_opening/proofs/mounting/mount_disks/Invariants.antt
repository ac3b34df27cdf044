-- As many pairs as there is room for spares.
use Rattle.std.specs.Vec.{vec_capacity}
use Rattle.qc_opening.proofs.mounting.mount_disks.Given as goal

abbrev pub ghost-new : goal.ghost-new
ghost-new g a = vec_capacity a.spares
