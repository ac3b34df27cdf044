use Rattle.std.proofs.Common.{◌==◌, ◌&&◌, sym, ◌∙◌, arith}
use Rattle.std.specs.Prelude.{is_some}
use Rattle.qc_event.specs.declared.event.Ask.{Ask}
use Rattle.qc_event.specs.History.{asks}
use Rattle.qc_event.specs.Manager.{is_phase, phase_of, reply}
use Rattle.qc_scan.proofs.Search.{any_here, any_passed, any_nowhere, any_filter}
use Rattle.qc_scan.proofs.asks.has_replied.Goals as goal

pub returns-then-has_reply : goal.returns-then-has_reply
returns-then-has_reply g c =
    let past = g.H.Looks.past c.args.h.now in
    let test = λ (ask : Ask). is_phase c.args.phase (phase_of ask.op) && ((ask.copy == c.args.copy) && is_some (reply past ask.access)) in
    let all = asks past c.args.m.now in
    any_here test all c.loop-k.k c.ask-ask.result c.ask-ask.ensures c.loop-k.invariant (sym c.has_reply.ensures ∙ c.if-has_reply.true)
    ∙ sym (any_filter (λ (ask : Ask). is_phase c.args.phase (phase_of ask.op)) (λ (ask : Ask). (ask.copy == c.args.copy) && is_some (reply past ask.access)) all)

pub loop-k-preserved : goal.loop-k-preserved
loop-k-preserved g c =
    let past = g.H.Looks.past c.args.h.now in
    let test = λ (ask : Ask). is_phase c.args.phase (phase_of ask.op) && ((ask.copy == c.args.copy) && is_some (reply past ask.access)) in
    let all = asks past c.args.m.now in
    any_passed test all c.loop-k.k c.ask-ask.result c.ask-ask.ensures c.loop-k.invariant (sym c.has_reply.ensures ∙ c.if-has_reply.false)

pub returns : goal.returns
returns g c =
    let past = g.H.Looks.past c.args.h.now in
    let test = λ (ask : Ask). is_phase c.args.phase (phase_of ask.op) && ((ask.copy == c.args.copy) && is_some (reply past ask.access)) in
    let all = asks past c.args.m.now in
    any_nowhere test all c.loop-k.k c.loop-k.invariant (omega (arith, c.loop-k-test.false, c.asks-k-end.ensures))
    ∙ sym (any_filter (λ (ask : Ask). is_phase c.args.phase (phase_of ask.op)) (λ (ask : Ask). (ask.copy == c.args.copy) && is_some (reply past ask.access)) all)
