-- What the grants so far restore.
use Rattle.std.proofs.Common.{◌≡◌, length, take}
use Rattle.qc_codec.specs.Base.{tuples_of_base}
use Rattle.qc_codec.specs.Restored.{restored_row}
use Rattle.qc_desk.specs.Held.{from_row}
use Rattle.qc_site.proofs.start.restored_row.Given as goal

abbrev pub invariant-loop-grant : goal.invariant-loop-grant
invariant-loop-grant l = l.tuples.items ≡ restored_row l.tops (length l.table.records) (from_row (tuples_of_base l.table l.base)) (take l.grant-index l.grants)
