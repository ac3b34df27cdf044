use Rattle.std.proofs.Common.{◌≡◌, take}
use Rattle.std.specs.Prelude.{map}
use Rattle.qc_event.specs.Tables.{first_tuple}
use Rattle.qc_site.proofs.start.first_tuples.Given as goal

abbrev pub invariant-loop-row : goal.invariant-loop-row
invariant-loop-row l = l.tuples.items ≡ map first_tuple (take l.row-index l.table.records)
