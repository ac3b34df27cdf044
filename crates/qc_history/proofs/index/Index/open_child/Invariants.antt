use Rattle.std.proofs.Common.{◌≡◌, drop}
use Rattle.std.specs.Prelude.{find}
use Rattle.qc_event.specs.History.{children}
use Rattle.qc_event.specs.Standing.{open_child}
use Rattle.qc_history.specs.Index.{IsOf}
use Rattle.qc_history.specs.Standing.{OfEach}
use Rattle.qc_history.proofs.Children.{unended}
use Rattle.qc_history.proofs.index.Index.open_child.Given as goal

-- none of the children so far is open
abbrev pub invariant-loop-k : goal.invariant-loop-k
invariant-loop-k l = OfEach (IsOf l.self) (λ past. open_child past l.name ≡ find (unended past) (drop l.k (children past l.name)))
