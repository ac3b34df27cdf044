-- The page has the copies so far that are missing.
use Rattle.std.proofs.Common.{◌≡◌, ◌++◌}
use Rattle.qc_report.specs.Report.{missing_item}
use Rattle.qc_report.proofs.Listed.{joined, is_nil, items_below}
use Rattle.qc_report.proofs.lack.push_missing.Given as goal

abbrev pub invariant-loop-copy : goal.invariant-loop-copy
invariant-loop-copy l = record {
  page : l.page ≡ l.initial.page ++ joined (items_below (missing_item l.missing) l.copy-counter);
  first : l.is_empty ≡ is_nil (items_below (missing_item l.missing) l.copy-counter);
}
