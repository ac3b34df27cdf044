-- The law is proved over all records.
use Rattle.qc_disk.proofs.Between.{left-between}
use Rattle.qc_disk.proofs.law.left_between.Goals as goal

pub returns : goal.returns
returns c = left-between
