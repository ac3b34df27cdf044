use Rattle.std.proofs.Common.{◌≡◌, drop}
use Rattle.qc_codec.specs.Bodies as body
use Rattle.qc_codec.proofs.table.are_distinct.Given as goal

abbrev pub invariant-loop-place : goal.invariant-loop-place
invariant-loop-place l = body.are_distinct (drop l.place l.rows) ≡ body.are_distinct l.rows
