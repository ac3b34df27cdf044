use Rattle.std.proofs.Common.{sym, ◌∙◌, arith}
use Rattle.std.specs.Prelude.{is_none}
use Rattle.qc_event.specs.declared.event.Ask.{Ask}
use Rattle.qc_event.specs.History.{end, asks}
use Rattle.qc_scan.proofs.Search.{here, passed, nowhere}
use Rattle.qc_scan.proofs.asks.waiting.Goals as goal

pub returns-then-is_open_ask : goal.returns-then-is_open_ask
returns-then-is_open_ask g c =
    let past = g.H.Looks.past c.args.h.now in
    let test = λ (ask : Ask). is_none (end past ask.access) in
    let all = asks past c.args.m.now in
    here test all c.loop-k.k c.ask-ask.result c.ask-ask.ensures c.loop-k.invariant (sym c.is_open_ask.ensures ∙ c.if-is_open_ask.true)

pub loop-k-preserved : goal.loop-k-preserved
loop-k-preserved g c =
    let past = g.H.Looks.past c.args.h.now in
    let test = λ (ask : Ask). is_none (end past ask.access) in
    let all = asks past c.args.m.now in
    passed test all c.loop-k.k c.ask-ask.result c.ask-ask.ensures c.loop-k.invariant (sym c.is_open_ask.ensures ∙ c.if-is_open_ask.false)

pub returns : goal.returns
returns g c =
    let past = g.H.Looks.past c.args.h.now in
    let test = λ (ask : Ask). is_none (end past ask.access) in
    let all = asks past c.args.m.now in
    nowhere test all c.loop-k.k c.loop-k.invariant (omega (arith, c.loop-k-test.false, c.asks-k-end.ensures))
