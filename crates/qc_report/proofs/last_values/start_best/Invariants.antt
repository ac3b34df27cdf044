-- The best is that of the copies so far.
use Rattle.std.proofs.Common.{◌≡◌}
use Rattle.qc_report.specs.LastValues.{best_of}
use Rattle.qc_report.proofs.Bests.{starts}
use Rattle.qc_report.proofs.last_values.start_best.Given as goal

abbrev pub invariant-loop-copy : goal.invariant-loop-copy
invariant-loop-copy l = l.best ≡ best_of (starts l.base l.rec l.copy)
