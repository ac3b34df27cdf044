-- The rows so far are the copies' so far.
use Rattle.std.proofs.Common.{◌≡◌, map, take}
use Rattle.qc_site.specs.Start.{start_of}
use Rattle.qc_opening.proofs.starting.rows_of.Given as goal

abbrev pub invariant-loop-copy : goal.invariant-loop-copy
invariant-loop-copy g l = map (λ row. row.items) l.rows.items ≡ map (λ pair. start_of pair.copy) (take l.copy-index l.copies)
