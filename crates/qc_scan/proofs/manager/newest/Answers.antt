use Rattle.std.proofs.Common.{◌+◌, drop, sym, ap, ◌∙◌, arith}
use Rattle.std.specs.Prelude.{fold}
use Rattle.qc_event.specs.History.{asks}
use Rattle.qc_event.specs.Manager.{Newest, newer}
use Rattle.qc_scan.specs.Raised.{replies_to}
use Rattle.qc_scan.proofs.Raised.{onward, fold_further, fold_all}
use Rattle.qc_scan.proofs.manager.newest.Goals as goal
use Rattle.qc_scan.proofs.manager.newest.Goals.{in-Some, in_default}

pub loop-k-preserved : goal.loop-k-preserved
loop-k-preserved g c =
    let past = g.H.Looks.past c.args.h.now in
    let all = asks past c.args.m.now in
    let best = c.loop-k.best in
    let rest = λ (b : Newest). fold newer b (replies_to past (drop (c.loop-k.k + 1) all)) in
    let further = c.loop-k.invariant ∙ fold_further newer past all c.loop-k.k best c.ask.result c.ask.ensures in
    elim c.match-reply_to.branch [
      | in-Some w ↦ further ∙ ap rest (ap (onward newer past all c.loop-k.k best) (sym w.in-Some.ensures) ∙ sym w.newer-best.ensures ∙ sym w.best-is)
      | in_default w ↦ further ∙ ap rest (ap (onward newer past all c.loop-k.k best) (sym c.reply_to.ensures ∙ w.in_default.is) ∙ sym w.best-is)
    ]

pub returns : goal.returns
returns g c =
    let past = g.H.Looks.past c.args.h.now in
    sym (c.loop-k.invariant ∙ fold_all newer past (asks past c.args.m.now) c.loop-k.k c.loop-k.best (omega (arith, c.loop-k-test.false, c.asks-k-end.ensures)))
