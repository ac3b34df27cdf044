use Rattle.qc_codec.specs.Fields.{current_format}
use Rattle.qc_codec.proofs.Fits.{table_sized}
use Rattle.qc_codec.proofs.table.put_table.Goals as goal

pub put_rows-requires-clause-lengths : goal.put_rows-requires-clause-lengths
put_rows-requires-clause-lengths c = rw c.as_slice-rows.ensures ((table_sized current_format c.args.table.now c.requires).rows)
