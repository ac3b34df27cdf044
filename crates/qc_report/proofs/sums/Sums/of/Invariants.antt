-- The pages have the lines of the entries so far, and the counts are theirs.
use Rattle.std.proofs.Common.{◌≡◌, take}
use Rattle.qc_report.specs.Counts.{counts}
use Rattle.qc_report.specs.Report as spec
use Rattle.qc_report.proofs.sums.Sums.of.Given as goal

abbrev pub invariant-loop-at : goal.invariant-loop-at
invariant-loop-at l = record {
  ends : l.sums.ends ≡ spec.event_lines l.table l.history (take l.at l.history);
  doubts : l.sums.doubts ≡ spec.doubt_lines l.history (take l.at l.history);
  tally : l.sums.tally ≡ counts l.history (take l.at l.history);
}
