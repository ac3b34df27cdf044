-- The counts are those of the entries so far.
use Rattle.std.proofs.Common.{◌≡◌, take}
use Rattle.qc_report.specs.Counts.{counts}
use Rattle.qc_report.proofs.tally.Tally.of.Given as goal

abbrev pub invariant-loop-at : goal.invariant-loop-at
invariant-loop-at l = l.tally ≡ counts l.history (take l.at l.trail)
