use Rattle.std.proofs.Common.{◌≡◌, ◌∙◌, ap, sym, take, reverse, true, false, arith}
use Rattle.qc_event.specs.Dead.{outcome, is_committed}
use Rattle.qc_report.proofs.ForGood.{all_but_root, not_all_but_root, one_longer}
use Rattle.qc_report.proofs.last_values.is_for_good.Goals as goal

pub returns-then-not-is_committed : goal.returns-then-not-is_committed
returns-then-not-is_committed c =
    let past = reverse c.args.history.now in
    let here : is_committed (outcome past (take c.loop-len.len c.args.access.now)) ≡ false =
    ap (λ a. is_committed (outcome past a)) (sym c.ancestor.ensures) ∙ ap is_committed (sym c.outcome.ensures) ∙ sym c.is_committed.ensures ∙ c.if-not-is_committed.true in
    sym (not_all_but_root (λ a. is_committed (outcome past a)) c.args.access.now c.loop-len.len (omega arith) (omega arith) here)

pub loop-len-preserved : goal.loop-len-preserved
loop-len-preserved c =
    let past = reverse c.args.history.now in
    let here : is_committed (outcome past (take c.loop-len.len c.args.access.now)) ≡ true =
    ap (λ a. is_committed (outcome past a)) (sym c.ancestor.ensures) ∙ ap is_committed (sym c.outcome.ensures) ∙ sym c.is_committed.ensures ∙ c.if-not-is_committed.false in
    one_longer (λ a. is_committed (outcome past a)) c.args.access.now c.loop-len.len c.loop-len.invariant here

pub returns : goal.returns
returns c =
    let past = reverse c.args.history.now in
    sym (all_but_root (λ a. is_committed (outcome past a)) c.args.access.now (λ j some h. c.loop-len.invariant j some (omega arith)))
