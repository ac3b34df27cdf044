use Rattle.std.proofs.Common.{◌≡◌, ◌&&◌, drop}
use Rattle.std.specs.Prelude.{find, is_some}
use Rattle.qc_event.specs.declared.event.Ask.{Ask}
use Rattle.qc_event.specs.Manager.{is_phase, phase_of, blocked_by}
use Rattle.qc_event.specs.History.{asks}
use Rattle.qc_scan.proofs.asks.first_blocked.Given as goal

-- none so far is blocked
abbrev pub invariant-loop-k : goal.invariant-loop-k
invariant-loop-k g l =
    let past = g.H.Looks.past l.h in
    let test = λ (ask : Ask). is_phase l.phase (phase_of ask.op) && is_some (blocked_by past ask.access) in
    let all = asks past l.m in
    find test all ≡ find test (drop l.k all)
