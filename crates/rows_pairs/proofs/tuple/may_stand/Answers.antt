-- Each part of the tuple was read, so that it is in range.
use Rattle.std.proofs.Common.{arith}
use Rattle.qc_codec.specs.Fields.{current}
use Rattle.qc_codec.proofs.Fits.{config_fits, value_fits, tuple_fits}
use Rattle.rows_pairs.proofs.tuple.may_stand.Goals as goal

pub returns : goal.returns
returns c = λ is.
    let config = c.args.tuple.now.config in
    tuple_fits (current c.args.copies) c.args.tuple.now (omega arith)
    (value_fits c.args.tuple.now.value c.as_number-value.ensures.possible) (omega arith)
    (config_fits (current c.args.copies) config (omega arith) (c.count.ensures.faultless (omega arith)) (record {
      votes = c.config_in_range.ensures.votes;
      read = c.config_in_range.ensures.read;
      write = c.config_in_range.ensures.write;
    }))
