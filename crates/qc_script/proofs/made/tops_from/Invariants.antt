use Rattle.std.proofs.Common.{◌≡◌, ◌-◌, map}
use Rattle.std.specs.List.{range_with_len}
use Rattle.qc_script.specs.MadePlan.{top_at}
use Rattle.qc_script.specs.Steps.{numbered}
use Rattle.qc_script.proofs.made.tops_from.Given as goal

-- the tops so far
abbrev pub invariant-loop-place : goal.invariant-loop-place
invariant-loop-place l = map numbered l.tops.items ≡ map (top_at l.seed) (range_with_len l.first (l.place - l.first))
