-- What holds of a disk in memory holds of the disk that it is.
use Rattle.qc_disk.proofs.home.HomeDiskDisk.sync.Goals as goal

pub returns-in-Memory-clause-time : goal.returns-in-Memory-clause-time
returns-in-Memory-clause-time c = rw c.in-Memory.is c.sync.ensures.time
