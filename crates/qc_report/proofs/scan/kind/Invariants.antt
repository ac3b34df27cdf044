use Rattle.std.proofs.Common.{◌≡◌, reverse, take}
use Rattle.std.specs.Prelude.{None}
use Rattle.qc_event.specs.History.{start}
use Rattle.qc_report.proofs.scan.kind.Given as goal

abbrev pub invariant-loop-at : goal.invariant-loop-at
invariant-loop-at l = start (reverse (take l.at l.trail)) l.n ≡ None
