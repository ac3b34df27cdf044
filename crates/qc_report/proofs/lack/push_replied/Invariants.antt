-- The page has the copies so far that replied.
use Rattle.std.proofs.Common.{◌≡◌, ◌++◌}
use Rattle.qc_report.proofs.Listed.{joined, is_nil, items_below, marked_item}
use Rattle.qc_report.proofs.lack.push_replied.Given as goal

abbrev pub invariant-loop-copy : goal.invariant-loop-copy
invariant-loop-copy l = record {
  page : l.page ≡ l.initial.page ++ joined (items_below (marked_item l.replied) l.copy-counter);
  first : l.is_empty ≡ is_nil (items_below (marked_item l.replied) l.copy-counter);
}
