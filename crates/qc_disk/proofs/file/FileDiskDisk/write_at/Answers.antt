-- Of a file a crash may leave anything, so also what it left before.
use Rattle.qc_disk.specs.Laws.{torn_same}
use Rattle.qc_disk.proofs.file.FileDiskDisk.write_at.Goals as goal

pub returns-in_default-clause-crash : goal.returns-in_default-clause-crash
returns-in_default-clause-crash c = λ image left. (image, tt, torn_same _ _ image)

pub returns-then-is_err-clause-crash : goal.returns-then-is_err-clause-crash
returns-then-is_err-clause-crash c = λ image left. (image, tt, torn_same _ _ image)

pub returns-clause-crash : goal.returns-clause-crash
returns-clause-crash c = λ image left. (image, tt, torn_same _ _ image)
