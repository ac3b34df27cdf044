use Rattle.std.proofs.Common.{◌++◌, ◌∙◌, ap, arith, length, take}
use Rattle.qc_event.specs.declared.event.Entry.{Entry}
use Rattle.qc_report.specs.Counts.{counts}
use Rattle.qc_report.specs.Report.{event_line, doubt_line}
use Rattle.qc_report.proofs.Further.{entries_further, lines_further, something_at}
use Rattle.qc_report.proofs.sums.Sums.of.Goals as goal

pub loop-at-init : goal.loop-at-init
loop-at-init c = record {
  ends = c.new-sums.ensures.ends;
  doubts = c.new-sums.ensures.doubts;
  tally = c.new-sums.ensures.tally c.args.history.now;
}

pub loop-at-preserved : goal.loop-at-preserved
loop-at-preserved c =
    let trail = c.args.history.now in
    let i = c.loop-at.at in
    let here = something_at trail i (omega (arith, c.loop-at-test.true, c.len-at-end.ensures, ap length c.trail-trail.ensures)) in
    let e = here.0 in
    let ends = λ (x : Entry). event_line c.args.table.now trail x.event in
    let doubts = λ (x : Entry). doubt_line trail x.event in
    let now = c.in_ok-take_in.ensures in
    record {
      ends = now.ends e here.1 ∙ ap (λ p. p ++ ends e) c.loop-at.invariant.ends ∙ lines_further ends trail i e here.1;
      doubts = now.doubts e here.1 ∙ ap (λ p. p ++ doubts e) c.loop-at.invariant.doubts ∙ lines_further doubts trail i e here.1;
      tally = now.tally (take i trail) e here.1 c.loop-at.invariant.tally ∙ ap (counts trail) (entries_further trail i e here.1);
    }
