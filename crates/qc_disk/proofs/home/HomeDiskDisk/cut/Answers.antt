-- What holds of a disk of one kind holds of the disk that it is.
use Rattle.qc_disk.proofs.home.HomeDiskDisk.cut.Goals as goal

pub returns-in-File-clause-crash : goal.returns-in-File-clause-crash
returns-in-File-clause-crash c = rw c.in-File.is c.cut-in-File.ensures.crash

pub returns-in-Memory-clause-time : goal.returns-in-Memory-clause-time
returns-in-Memory-clause-time c = rw c.in-Memory.is c.cut.ensures.time
