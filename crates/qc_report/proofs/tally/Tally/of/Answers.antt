use Rattle.std.proofs.Common.{◌∙◌, ap, take}
use Rattle.qc_report.specs.Counts.{counts}
use Rattle.qc_trail.proofs.Outlined.{outlined}
use Rattle.qc_report.proofs.Further.{entries_further}
use Rattle.qc_report.proofs.tally.Tally.of.Goals as goal

pub loop-at-init : goal.loop-at-init
loop-at-init c = c.none-tally.ensures c.args.history.now

pub loop-at-preserved : goal.loop-at-preserved
loop-at-preserved c =
    let es = c.trail-trail.result.now in
    let i = c.loop-at.at in
    let here = outlined es i c.outline-outline.result c.outline-outline.ensures in
    c.count.ensures c.args.history.now (take i es) here.entry here.is (c.in_doubt.ensures here.entry.event here.is) c.loop-at.invariant
    ∙ ap (counts c.args.history.now) (entries_further es i here.entry here.there)
