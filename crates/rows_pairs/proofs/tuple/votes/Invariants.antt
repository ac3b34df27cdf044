use Rattle.std.proofs.Common.{◌≤◌}
use Rattle.rows_pairs.proofs.tuple.votes.Given as goal

-- there are no more votes than fit
abbrev pub invariant-loop-number : goal.invariant-loop-number
invariant-loop-number l = l.count ≤ 16
