use Rattle.std.proofs.Common.{arith}
use Rattle.qc_codec.specs.Fields.{current}
use Rattle.qc_codec.proofs.Fits.{tuple_fits}
use Rattle.qc_codec.proofs.Puts.{on_ok}
use Rattle.qc_codec.proofs.spelling.put_tuple.Goals as goal

pub returns-clause-fits : goal.returns-clause-fits
returns-clause-fits c =
    on_ok c.put_config.result (λ config some. tuple_fits (current c.args.copies) c.args.tuple.now (omega arith) c.put_value.ensures.fits (omega arith) (config some)) c.put_config.ensures.fits
