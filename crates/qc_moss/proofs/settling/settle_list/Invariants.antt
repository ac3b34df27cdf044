use Rattle.std.proofs.Common.{◌≡◌, ◌≤◌, ◌++◌, take, drop, All, true, vec_len, vec_capacity}
use Rattle.qc_event.specs.History.{Past}
use Rattle.qc_moss.specs.Follows.{Becomes, HoldsStill}
use Rattle.qc_moss.specs.Locks.{is_short}
use Rattle.qc_moss.proofs.settling.settle_list.Given as goal

-- the locks so far are settled, and the others as they were
abbrev pub invariant-loop-i : goal.invariant-loop-i
invariant-loop-i g l = record {
  becomes : (past : Past) → g.S.Source.tells l.source past → Becomes past l.initial.held.items (take l.kept l.held.items ++ drop l.i l.initial.held.items);
  still : (past : Past) → g.S.Source.tells l.source past → All (HoldsStill past) (take l.kept l.held.items);
  short : is_short (take l.kept l.held.items) ≡ true;
  rest : drop l.i l.held.items ≡ drop l.i l.initial.held.items;
  len : vec_len l.held ≡ vec_len l.initial.held;
  room : vec_capacity l.held ≡ vec_capacity l.initial.held;
  bound : l.kept ≤ l.i;
}
