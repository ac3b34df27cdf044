use Rattle.qc_codec.proofs.Puts.{if_ok}
use Rattle.qc_trail_codec.proofs.Fits.{lack_fits}
use Rattle.qc_trail_codec.proofs.reason.put_lack.Goals as goal

pub returns-clause-fits : goal.returns-clause-fits
returns-clause-fits c =
    if_ok c.put_missing.result (lack_fits c.args.lack.now c.as_slice.ensures.sixteen c.put_missing.ensures.sixteen)
