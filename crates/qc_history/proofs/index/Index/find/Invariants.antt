use Rattle.std.proofs.Common.{◌≡◌, ◌+◌, ◌-◌, ◌<◌, ◌≤◌, length, take}
use Rattle.std.specs.Prelude.{Some}
use Rattle.qc_history.specs.Index.{IsOf}
use Rattle.qc_history.specs.Places.{place}
use Rattle.qc_history.specs.Standing.{OfEach}
use Rattle.qc_history.proofs.index.Index.find.Given as goal

-- the node so far is that of the name's first numbers
abbrev pub invariant-loop-k : goal.invariant-loop-k
invariant-loop-k g l = record {
  place : OfEach (IsOf l.self) (λ past. place past (take l.k l.name) ≡ Some l.at);
  within : l.at < length l.self.spots;
  cost : l.steps ≤ l.initial.steps + (l.k - 1);
}
