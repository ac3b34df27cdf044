-- The best are those of the records so far.
use Rattle.std.proofs.Common.{◌≡◌, map}
use Rattle.std.specs.List.{range_with_len}
use Rattle.qc_event.specs.Sound.{column}
use Rattle.qc_report.specs.LastValues.{best_of}
use Rattle.qc_report.proofs.last_values.start_bests.Given as goal

abbrev pub invariant-loop-rec : goal.invariant-loop-rec
invariant-loop-rec l = l.bests.items ≡ map (λ rec. best_of (column l.base rec)) (range_with_len 0 l.rec)
