use Rattle.std.proofs.Common.{◌≡◌, drop}
use Rattle.std.specs.Prelude.{fold}
use Rattle.qc_event.specs.History.{asks}
use Rattle.qc_event.specs.Manager.{newer, newest}
use Rattle.qc_scan.specs.Raised.{replies_to}
use Rattle.qc_scan.proofs.manager.newest.Given as goal

-- the newest of what the requests so far replied
abbrev pub invariant-loop-k : goal.invariant-loop-k
invariant-loop-k g l =
    let past = g.H.Looks.past l.h in
    newest past l.first l.m ≡ fold newer l.best (replies_to past (drop l.k (asks past l.m)))
