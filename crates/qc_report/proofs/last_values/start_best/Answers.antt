use Rattle.std.proofs.Common.{◌≡◌, ◌∙◌, ap, sym, length, arith}
use Rattle.qc_report.specs.LastValues.{best_of}
use Rattle.qc_report.proofs.Bests.{column_is, starts, start_more}
use Rattle.qc_report.proofs.last_values.start_best.Goals as goal

pub loop-copy-preserved : goal.loop-copy-preserved
loop-copy-preserved c =
    let base = c.args.base.now in
    let n = c.loop-copy.copy in
    start_more base c.args.rec n c.loop-copy.best _ c.tuple.result c.loop-copy.invariant c.tuple.ensures c.raised-best.ensures

pub returns : goal.returns
returns c =
    let base = c.args.base.now in
    let all : c.loop-copy.copy ≡ length base = omega arith in
    c.loop-copy.invariant ∙ ap (λ n. best_of (starts base c.args.rec n)) all ∙ ap best_of (sym (column_is base c.args.rec))
