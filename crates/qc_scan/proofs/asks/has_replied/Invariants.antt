use Rattle.std.proofs.Common.{◌≡◌, ◌==◌, ◌&&◌, drop}
use Rattle.std.specs.Prelude.{is_some}
use Rattle.std.specs.List.{list_any}
use Rattle.qc_event.specs.declared.event.Ask.{Ask}
use Rattle.qc_event.specs.Manager.{is_phase, phase_of, reply}
use Rattle.qc_event.specs.History.{asks}
use Rattle.qc_scan.proofs.asks.has_replied.Given as goal

-- the copy replied to none so far
abbrev pub invariant-loop-k : goal.invariant-loop-k
invariant-loop-k g l =
    let past = g.H.Looks.past l.h in
    let test = λ (ask : Ask). is_phase l.phase (phase_of ask.op) && ((ask.copy == l.copy) && is_some (reply past ask.access)) in
    let all = asks past l.m in
    list_any test all ≡ list_any test (drop l.k all)
