use Rattle.std.proofs.Common.{false, arith}
use Rattle.std.proofs.lemmas.List.FromFn.{fill_by_all}
use Rattle.qc_event.specs.Manager as words
use Rattle.qc_scan.proofs.asks.replied.Goals as goal

pub returns : goal.returns
returns g c =
    fill_by_all (words.has_replied (g.H.Looks.past c.args.h.now) c.args.m.now c.args.phase) c.loop-c.copies 16 false c.loop-c.invariant.long (λ k lt. c.loop-c.invariant.so_far k (omega arith))
