-- The start values so far are such numbers.
use Rattle.std.proofs.Common.{All, take}
use Rattle.qc_codec.specs.Fields.{current_format, datum}
use Rattle.qc_event.specs.declared.table.Row.{Row}
use Rattle.qc_run.proofs.spelling.starts_fit.Given as goal

abbrev pub invariant-loop-row : goal.invariant-loop-row
invariant-loop-row l = All (λ (row : Row). (datum current_format).fits row.start) (take l.row-index l.rows)
