use Rattle.std.proofs.Common.{◌≡◌, drop}
use Rattle.std.specs.List.{list_any}
use Rattle.std.specs.Str.{bytes_eq}
use Rattle.qc_event.specs.declared.table.Row.{Row}
use Rattle.qc_codec.proofs.table.has_name.Given as goal

abbrev pub invariant-loop-row : goal.invariant-loop-row
invariant-loop-row l = list_any (λ (r : Row). bytes_eq r.name l.name) (drop l.row-index l.rows) ≡ list_any (λ (r : Row). bytes_eq r.name l.name) l.rows
