-- There are at most as many votes as copies.
use Rattle.std.proofs.Common.{◌≤◌}
use Rattle.rows_text.proofs.value.votes_of.Given as goal

abbrev pub invariant-loop-number : goal.invariant-loop-number
invariant-loop-number l = l.count ≤ 16
