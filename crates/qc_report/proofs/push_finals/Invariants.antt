-- The page has the lines of the records so far.
use Rattle.std.proofs.Common.{◌≡◌, ◌++◌, map}
use Rattle.qc_report.specs.Report as spec
use Rattle.qc_report.proofs.push_finals.Given as goal

abbrev pub invariant-loop-row : goal.invariant-loop-row
invariant-loop-row l = l.page ≡ l.initial.page ++ spec.final_lines (map (λ p. (p.0.now, p.1.now)) l.yielded)
