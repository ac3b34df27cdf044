use Rattle.std.proofs.Common.{reverse, arith}
use Rattle.qc_serial.proofs.Ancestors.{visits_next, visits_all}
use Rattle.qc_serial.proofs.order.serialise.Goals as goal

pub loop-k-preserved : goal.loop-k-preserved
loop-k-preserved c = visits_next (reverse c.args.h.now) c.args.t.now c.loop-k.k _ _ c.ancestor.result (omega arith) c.ancestor.ensures c.loop-k.invariant c.in_ok-visit.ensures

pub returns : goal.returns
returns c = visits_all (reverse c.args.h.now) c.args.t.now c.loop-k.k _ (omega arith) c.loop-k.invariant
