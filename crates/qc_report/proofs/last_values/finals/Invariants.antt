-- The greatest of each record are those of the start and of the entries so far.
use Rattle.std.proofs.Common.{◌≡◌, length, reverse, take}
use Rattle.qc_report.specs.LastValues.{AreBest}
use Rattle.qc_report.proofs.Bests.{tuples_of}
use Rattle.qc_report.proofs.last_values.finals.Given as goal

abbrev pub invariant-loop-at : goal.invariant-loop-at
invariant-loop-at l = record {
  as_many : length l.bests.items ≡ l.records;
  best : AreBest (tuples_of l.base (reverse l.history) (take l.at l.history)) l.bests.items;
}
