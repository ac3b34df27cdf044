use Rattle.std.proofs.Common.{◌≡◌}
use Rattle.qc_script.specs.Calls.{MeetsLink}
use Rattle.qc_interp.proofs.Rows.Aborting.{AbortedTo}
use Rattle.qc_interp.proofs.Rows.AbortNext.{IsBy}
use Rattle.qc_interp.proofs.body.row.abort_all.Given as goal

abbrev pub invariant-loop-first : goal.invariant-loop-first
invariant-loop-first g l =
    let view = g.T.Tx.view in
    record {
      met : MeetsLink (view l.tx);
      client : (view l.tx).client ≡ (view l.fn.tx).client;
      by : IsBy l.of l.why l.above;
      aborted : AbortedTo (view l.fn.tx).client l.firsts (view l.fn.tx).seen l.first-index (view l.tx).seen;
    }
