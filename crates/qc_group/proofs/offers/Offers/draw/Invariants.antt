-- The offers placed so far, and behind them those that are left, turned round, are all; and there is room for these.
use Rattle.std.proofs.Common.{◌≡◌, ◌≤◌, ◌+◌, List, ◌++◌, reverse}
use Rattle.std.specs.Prelude.{min, vec_len, vec_capacity}
use Rattle.qc_group.specs.declared.waiting.Waiting.{Waiting}
use Rattle.qc_group.specs.Draws.{IsDraw}
use Rattle.qc_group.proofs.offers.Offers.draw.Given as goal

abbrev pub invariant-loop-item : goal.invariant-loop-item
invariant-loop-item g l = record {
  divided : (offers : List (Waiting g.row.N.Denot g.N.Store)) × (offers ++ reverse l.self.items.items ≡ l.fn.self.items.items) × IsDraw l.own l.most offers l.drawn.items l.left.items;
  room : vec_len l.left + vec_len l.self.items ≤ vec_capacity l.left;
  few : vec_len l.drawn + vec_len l.self.items ≤ vec_len l.fn.self.items;
  room_drawn : min l.most (vec_len l.fn.self.items) ≤ vec_capacity l.drawn;
}

abbrev pub decreases-loop-item : goal.decreases-loop-item
decreases-loop-item g l = vec_len l.self.items
