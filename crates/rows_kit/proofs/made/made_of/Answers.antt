-- What was read is proper.
use Rattle.qc_codec.proofs.Fits.{table_renewed}
use Rattle.rows_kit.proofs.made.made_of.Goals as goal

pub returns-in-Ok : goal.returns-in-Ok
returns-in-Ok c = table_renewed c.in-Ok.made c.in-Ok.ensures.found.1
