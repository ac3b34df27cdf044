use Rattle.std.proofs.Common.{arith}
use Rattle.qc_codec.specs.Fields.{current}
use Rattle.qc_codec.proofs.Fits.{config_fits}
use Rattle.qc_codec.proofs.Puts.{if_ok}
use Rattle.qc_codec.proofs.spelling.put_config.Goals as goal

pub returns-clause-fits : goal.returns-clause-fits
returns-clause-fits c =
    if_ok c.put_half-2.result (λ some. config_fits (current c.args.copies) c.args.config.now c.requires.same (c.count.ensures.faultless (omega arith))
    (record {
      votes = λ k lt. c.loop-copy.invariant.small k (omega arith);
      read = omega arith;
      write = omega arith;
    }))
