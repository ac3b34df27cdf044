use Rattle.std.proofs.Common.{◌≡◌, ◌++◌, take}
use Rattle.std.specs.Prelude.{flat_map}
use Rattle.std.specs.List.{All}
use Rattle.qc_codec.specs.Fields.{current}
use Rattle.qc_trail_codec.specs.Events as events
use Rattle.qc_trail_codec.proofs.trail.put_entries.Given as goal

abbrev pub invariant-loop-at : goal.invariant-loop-at
invariant-loop-at l = record {
  written : l.out.items ≡ l.fn.out.items ++ flat_map (events.entry (current l.copies)).spell (take l.at l.entries);
  fits : All (events.entry (current l.copies)).fits (take l.at l.entries);
}
