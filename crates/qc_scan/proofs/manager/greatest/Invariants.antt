use Rattle.std.proofs.Common.{◌≡◌, drop}
use Rattle.std.specs.Prelude.{None, fold}
use Rattle.qc_event.specs.History.{asks}
use Rattle.qc_event.specs.Manager.{replies}
use Rattle.qc_scan.specs.Raised.{raised, replies_to}
use Rattle.qc_scan.proofs.manager.greatest.Given as goal

-- the greatest of what the requests so far replied
abbrev pub invariant-loop-k : goal.invariant-loop-k
invariant-loop-k g l =
    let past = g.H.Looks.past l.h in
    fold raised None (replies past l.m) ≡ fold raised l.best (replies_to past (drop l.k (asks past l.m)))
