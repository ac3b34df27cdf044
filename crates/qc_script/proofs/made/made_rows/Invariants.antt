use Rattle.std.proofs.Common.{◌≡◌, map}
use Rattle.std.specs.List.{range_with_len}
use Rattle.qc_script.specs.MadePlan.{made_row}
use Rattle.qc_script.proofs.made.made_rows.Given as goal

-- the rows so far
abbrev pub invariant-loop-rec : goal.invariant-loop-rec
invariant-loop-rec l = l.rows.items ≡ map made_row (range_with_len 0 l.rec)
