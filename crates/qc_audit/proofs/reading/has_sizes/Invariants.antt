use Rattle.std.proofs.Common.{◌≡◌, ℕ, ◌<◌, [], length}
use Rattle.std.specs.Prelude.{slice_index_or}
use Rattle.qc_audit.proofs.reading.has_sizes.Given as goal

abbrev pub invariant-loop-copy : goal.invariant-loop-copy
invariant-loop-copy l = (k : ℕ) → k < l.copy → length (slice_index_or l.base k []) ≡ l.records
