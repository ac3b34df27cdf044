use Rattle.std.proofs.Common.{◌≡◌, drop}
use Rattle.std.specs.Prelude.{find, is_none}
use Rattle.qc_event.specs.declared.event.Ask.{Ask}
use Rattle.qc_event.specs.History.{end, asks}
use Rattle.qc_scan.proofs.asks.waiting.Given as goal

-- none so far is open
abbrev pub invariant-loop-k : goal.invariant-loop-k
invariant-loop-k g l =
    let past = g.H.Looks.past l.h in
    let test = λ (ask : Ask). is_none (end past ask.access) in
    let all = asks past l.m in
    find test all ≡ find test (drop l.k all)
