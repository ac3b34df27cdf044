use Rattle.std.proofs.Common.{◌≡◌, ℕ, ◌<◌, ◌≤◌, false, length}
use Rattle.qc_config.specs.Copies.{has}
use Rattle.qc_event.specs.Manager.{has_replied}
use Rattle.qc_scan.proofs.asks.replied.Given as goal

-- of the copies so far those that replied are in the set, and no further one
abbrev pub invariant-loop-c : goal.invariant-loop-c
invariant-loop-c g l = record {
  long : length l.copies ≡ 16;
  so_far : (j : ℕ) → j < l.c → has l.copies j ≡ has_replied (g.H.Looks.past l.h) l.m l.phase j;
  rest : (j : ℕ) → l.c ≤ j → has l.copies j ≡ false;
}
