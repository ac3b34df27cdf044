use Rattle.std.proofs.Common.{◌≡◌, reverse, take}
use Rattle.std.specs.Prelude.{find, None}
use Rattle.qc_event.specs.History.{grants}
use Rattle.qc_event.specs.Seen.{is_in_way}
use Rattle.qc_event.proofs.scan.holder.Given as goal

-- no grant so far is in the way
abbrev pub invariant-loop-e : goal.invariant-loop-e
invariant-loop-e l = find (is_in_way (reverse l.h) l.rec l.op l.access) (grants (reverse (take l.e-index l.h)) l.copy) ≡ None
