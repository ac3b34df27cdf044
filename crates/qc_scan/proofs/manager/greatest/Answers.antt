use Rattle.std.proofs.Common.{◌+◌, drop, sym, ap, ◌∙◌, arith}
use Rattle.std.specs.Prelude.{Option, fold, unwrap_or}
use Rattle.qc_config.specs.Val.{Number}
use Rattle.qc_event.specs.History.{asks}
use Rattle.qc_event.specs.Manager.{Greatest, replies}
use Rattle.qc_scan.specs.Raised.{raised, replies_to}
use Rattle.qc_scan.proofs.Raised.{onward, fold_further, fold_all, greatest_is}
use Rattle.qc_scan.proofs.manager.greatest.Goals as goal
use Rattle.qc_scan.proofs.manager.greatest.Goals.{in-Some, in_default}

pub loop-k-preserved : goal.loop-k-preserved
loop-k-preserved g c =
    let past = g.H.Looks.past c.args.h.now in
    let all = asks past c.args.m.now in
    let best = c.loop-k.best in
    let rest = λ (b : Option Greatest). fold raised b (replies_to past (drop (c.loop-k.k + 1) all)) in
    let further = c.loop-k.invariant ∙ fold_further raised past all c.loop-k.k best c.ask.result c.ask.ensures in
    elim c.match-reply_to.branch [
      | in-Some w ↦ further ∙ ap rest (ap (onward raised past all c.loop-k.k best) (sym w.in-Some.ensures) ∙ sym w.raised-best.ensures ∙ sym w.best-is)
      | in_default w ↦ further ∙ ap rest (ap (onward raised past all c.loop-k.k best) (sym c.reply_to.ensures ∙ w.in_default.is) ∙ sym w.best-is)
    ]

pub returns : goal.returns
returns g c =
    let past = g.H.Looks.past c.args.h.now in
    let none : Greatest = record { version = 0; value = Number 0 } in
    c.unwrap_or.ensures
    ∙ ap (λ v. unwrap_or c.loop-k.best (record { version = 0; value = v })) c.number.ensures
    ∙ ap (λ o. unwrap_or o none) (sym (c.loop-k.invariant ∙ fold_all raised past (asks past c.args.m.now) c.loop-k.k c.loop-k.best (omega (arith, c.loop-k-test.false, c.asks-k-end.ensures))))
    ∙ greatest_is (replies past c.args.m.now)
