use Rattle.std.proofs.Common.{◌≡◌, take, false}
use Rattle.qc_moss.specs.Locks.{unheld}
use Rattle.qc_moss.specs.Consulting.{all_granted}
use Rattle.qc_moss.proofs.consulting.replay_locks.Given as goal

-- the grants so far, of which each access holds its own lock
abbrev pub invariant-loop-grant : goal.invariant-loop-grant
invariant-loop-grant l = record {
  table : l.locks ≡ all_granted (unheld l.fn.start.items) (take l.grant-index l.grants);
  start : l.locks.start ≡ l.fn.start.items;
  used : l.locks.reserved ≡ false;
}
