use Rattle.std.proofs.Common.{◌≡◌, reverse, take}
use Rattle.std.specs.Prelude.{None}
use Rattle.qc_event.specs.History.{end}
use Rattle.qc_report.proofs.scan.outcome.Given as goal

abbrev pub invariant-loop-at : goal.invariant-loop-at
invariant-loop-at l = end (reverse (take l.at l.trail)) l.n ≡ None
