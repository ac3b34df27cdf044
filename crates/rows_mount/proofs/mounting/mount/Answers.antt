-- A table that is spelled has few copies.
use Rattle.qc_codec.proofs.Fits.{table_sized}
use Rattle.qc_codec.specs.Fields.{current_format}
use Rattle.rows_mount.proofs.mounting.mount.Goals as goal

pub obtain_all-requires-clause-few : goal.obtain_all-requires-clause-few
obtain_all-requires-clause-few g c κs within = (table_sized current_format c.args.made.now.table c.requires).copies
