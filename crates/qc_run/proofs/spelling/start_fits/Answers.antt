use Rattle.std.proofs.Common.{arith}
use Rattle.qc_codec.proofs.Fits.{value_fits}
use Rattle.qc_run.proofs.spelling.start_fits.Goals as goal

pub returns : goal.returns
returns c = value_fits c.args.row.now.start c.as_number-start.ensures.possible
