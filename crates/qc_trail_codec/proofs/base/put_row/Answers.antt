use Rattle.qc_codec.specs.Fields as field
use Rattle.qc_codec.specs.Fields.{current}
use Rattle.qc_trail_codec.proofs.InARow.{one_more_written, one_more_fits}
use Rattle.qc_trail_codec.proofs.base.put_row.Goals as goal

pub loop-tuple-preserved : goal.loop-tuple-preserved
loop-tuple-preserved c = record {
  written = one_more_written (field.tuple (current c.args.copies)).spell c.args.out.now.items c.args.row.now c.loop-tuple.tuple-index c.tuple-item.result c.tuple-item.result _ _
      c.loop-tuple-test.true c.tuple-item.is c.loop-tuple.invariant.written c.in_ok-put_tuple.ensures.written;
  fits = one_more_fits (field.tuple (current c.args.copies)).fits c.args.row.now c.loop-tuple.tuple-index c.tuple-item.result c.tuple-item.result
      c.loop-tuple-test.true c.tuple-item.is c.loop-tuple.invariant.fits (c.in_ok-put_tuple.ensures.fits c.requires.some);
}
