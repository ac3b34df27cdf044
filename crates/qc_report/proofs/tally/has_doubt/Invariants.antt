-- A doubt is found where one stands among the entries so far.
use Rattle.std.proofs.Common.{◌≡◌, take}
use Rattle.std.specs.List.{list_any}
use Rattle.qc_event.specs.declared.event.Entry.{Entry}
use Rattle.qc_report.specs.Report.{in_doubt}
use Rattle.qc_report.proofs.tally.has_doubt.Given as goal

abbrev pub invariant-loop-at : goal.invariant-loop-at
invariant-loop-at l = l.doubt ≡ list_any (λ (e : Entry). in_doubt l.history e.event) (take l.at l.trail)
