use Rattle.std.proofs.Common.{◌<◌, length, arith}
use Rattle.qc_codec.specs.Fields.{current}
use Rattle.qc_trail_codec.specs.Events as events
use Rattle.qc_trail_codec.proofs.InARow.{one_more_written, one_more_fits, got}
use Rattle.qc_trail_codec.proofs.trail.put_entries.Goals as goal

pub loop-at-preserved : goal.loop-at-preserved
loop-at-preserved c =
    let item = got c.args.entries.now c.loop-at.at c.at-entry.result c.at-entry.ensures in
    let lt : c.loop-at.at < length c.args.entries.now = omega arith in
    record {
      written = one_more_written (events.entry (current c.args.copies)).spell c.args.out.now.items c.args.entries.now c.loop-at.at c.at-entry.result c.at-entry.result _ _
          lt item c.loop-at.invariant.written c.in_ok-put_entry.ensures.written;
      fits = one_more_fits (events.entry (current c.args.copies)).fits c.args.entries.now c.loop-at.at c.at-entry.result c.at-entry.result
          lt item c.loop-at.invariant.fits c.in_ok-put_entry.ensures.fits;
    }
