use Rattle.qc_looks.specs.Tables.{StartSo}
use Rattle.qc_looks.proofs.tables.Tables.new.Given as goal

abbrev pub invariant-loop-copy : goal.invariant-loop-copy
invariant-loop-copy l = StartSo l.base l.copy l.copies.items
