-- The index is that of the entries so far, where they may come one after another.
use Rattle.std.proofs.Common.{◌≡◌, reverse, take}
use Rattle.qc_event.specs.Base.{Setting}
use Rattle.qc_event.specs.Legal.{Legal}
use Rattle.qc_history.specs.Index.{IsOf}
use Rattle.qc_report.proofs.history.index_of.Given as goal

abbrev pub invariant-loop-at : goal.invariant-loop-at
invariant-loop-at l = record {
  index : (setting : Setting) → Legal setting (reverse (take l.at l.trail)) → IsOf l.index (reverse (take l.at l.trail));
  count : l.index.count ≡ l.at;
}
