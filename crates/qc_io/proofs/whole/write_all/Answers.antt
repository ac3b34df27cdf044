-- A write goes on from where the one before it ended.
use Rattle.std.proofs.Common.{length, ap, arith, rules}
use Rattle.qc_io.proofs.Streams.{appends_more}
use Rattle.qc_io.proofs.whole.write_all.Goals as goal

pub loop-done-preserved : goal.loop-done-preserved
loop-done-preserved g c =
    let h = c.in_ok-done.ensures.writes in
    let cause = c.in_ok-done.ensures.cause in
    record {
      within = search rules;
      taken = appends_more _ _ _ c.args.bytes.now c.loop-done.done c.in_ok-done.field-0 c.loop-done.invariant.taken h.bytes;
      later = omega arith;
      none = λ empty. let short = ap length empty in absurd (omega arith);
    }
