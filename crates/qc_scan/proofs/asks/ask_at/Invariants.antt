use Rattle.std.proofs.Common.{◌≡◌, ◌==◌, ◌&&◌, drop}
use Rattle.std.specs.Prelude.{find}
use Rattle.qc_event.specs.declared.event.Ask.{Ask}
use Rattle.qc_event.specs.Manager.{is_phase, phase_of}
use Rattle.qc_event.specs.History.{asks}
use Rattle.qc_scan.proofs.asks.ask_at.Given as goal

-- none so far is to the copy
abbrev pub invariant-loop-k : goal.invariant-loop-k
invariant-loop-k g l =
    let test = λ (ask : Ask). is_phase l.phase (phase_of ask.op) && (ask.copy == l.copy) in
    let all = asks (g.H.Looks.past l.h) l.m in
    find test all ≡ find test (drop l.k all)
