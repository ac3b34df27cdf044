use Rattle.std.proofs.Common.{◌≡◌, false, true, below_more, sym, ◌∙◌, arith, subst}
use Rattle.qc_event.specs.Aborts.{is_known}
use Rattle.qc_scan.proofs.Ranges.{not_all_in_range}
use Rattle.qc_check.proofs.aborts.each_is_known.Goals as goal

pub returns-then-not-is_known : goal.returns-then-not-is_known
returns-then-not-is_known g c =
    let known = is_known (g.H.Looks.past c.args.h.now) c.args.m.now c.args.stage.now in
    let copy = c.loop-copy.copy in
    sym (not_all_in_range known 0 16 copy c.loop-copy-test.true (subst (λ k. known k ≡ false) (omega arith) (sym c.is_known.ensures ∙ c.if-not-is_known.true)))

pub loop-copy-preserved : goal.loop-copy-preserved
loop-copy-preserved g c =
    below_more (λ k. is_known (g.H.Looks.past c.args.h.now) c.args.m.now c.args.stage.now k ≡ true) c.loop-copy.copy c.loop-copy.invariant (sym c.is_known.ensures ∙ c.if-not-is_known.false)
