-- Of a file a crash may leave anything, so also what it left before.
use Rattle.qc_disk.specs.Laws.{cut_same}
use Rattle.qc_disk.proofs.file.FileDiskDisk.cut.Goals as goal

pub returns-then-is_err-clause-crash : goal.returns-then-is_err-clause-crash
returns-then-is_err-clause-crash c = λ image left. (image, tt, cut_same _ image)

pub returns-clause-crash : goal.returns-clause-crash
returns-clause-crash c = λ image left. (image, tt, cut_same _ image)
