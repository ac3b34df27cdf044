use Rattle.std.proofs.Common.{arith}
use Rattle.qc_codec.specs.Fields.{current}
use Rattle.qc_codec.proofs.Fits.{granted_fits}
use Rattle.qc_codec.proofs.Puts.{on_ok}
use Rattle.qc_codec.proofs.grant.put_granted.Goals as goal

pub returns-clause-fits : goal.returns-clause-fits
returns-clause-fits c =
    on_ok c.put_tuple.result (λ tuple some numbered sets. granted_fits 1 (current c.args.copies) c.args.grant.now (c.in_ok-put_name.ensures.fits numbered) (omega arith) (tuple some) sets) c.put_tuple.ensures.fits
