use Rattle.std.proofs.Common.{◌&&◌, sym, ◌∙◌, arith}
use Rattle.std.specs.Prelude.{is_some}
use Rattle.qc_event.specs.declared.event.Ask.{Ask}
use Rattle.qc_event.specs.History.{asks}
use Rattle.qc_event.specs.Manager.{is_phase, phase_of, blocked_by}
use Rattle.qc_scan.proofs.Search.{here, passed, nowhere, find_filter}
use Rattle.qc_scan.proofs.asks.first_blocked.Goals as goal

pub returns-then-is_blocked : goal.returns-then-is_blocked
returns-then-is_blocked g c =
    let past = g.H.Looks.past c.args.h.now in
    let test = λ (ask : Ask). is_phase c.args.phase (phase_of ask.op) && is_some (blocked_by past ask.access) in
    let all = asks past c.args.m.now in
    here test all c.loop-k.k c.ask-ask.result c.ask-ask.ensures c.loop-k.invariant (sym c.is_blocked.ensures ∙ c.if-is_blocked.true)
    ∙ sym (find_filter (λ (ask : Ask). is_phase c.args.phase (phase_of ask.op)) (λ (ask : Ask). is_some (blocked_by past ask.access)) all)

pub loop-k-preserved : goal.loop-k-preserved
loop-k-preserved g c =
    let past = g.H.Looks.past c.args.h.now in
    let test = λ (ask : Ask). is_phase c.args.phase (phase_of ask.op) && is_some (blocked_by past ask.access) in
    let all = asks past c.args.m.now in
    passed test all c.loop-k.k c.ask-ask.result c.ask-ask.ensures c.loop-k.invariant (sym c.is_blocked.ensures ∙ c.if-is_blocked.false)

pub returns : goal.returns
returns g c =
    let past = g.H.Looks.past c.args.h.now in
    let test = λ (ask : Ask). is_phase c.args.phase (phase_of ask.op) && is_some (blocked_by past ask.access) in
    let all = asks past c.args.m.now in
    nowhere test all c.loop-k.k c.loop-k.invariant (omega (arith, c.loop-k-test.false, c.asks-k-end.ensures))
    ∙ sym (find_filter (λ (ask : Ask). is_phase c.args.phase (phase_of ask.op)) (λ (ask : Ask). is_some (blocked_by past ask.access)) all)
