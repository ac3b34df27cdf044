use Rattle.std.proofs.Common.{◌≡◌, ◌≤◌, length, take, map, vec_capacity}
use Rattle.qc_interp.proofs.body.row.firsts_of.Given as goal

abbrev pub invariant-loop-branch : goal.invariant-loop-branch
invariant-loop-branch g l = record {
  capacity : length l.branches ≤ vec_capacity l.firsts;
  items : l.firsts.items ≡ map (λ b. b.first) (take l.branch-index l.branches);
}
