use Rattle.std.proofs.Common.{◌≡◌, ◌++◌, ◌∙◌, ap, sym, arith}
use Rattle.std.specs.Prelude.{Some, None, if◌then◌else◌}
use Rattle.std.specs.Fmt.{decimal}
use Rattle.std.proofs.lemmas.Result.{on_ok_weaker}
use Rattle.qc_report.proofs.Listed.{joined, is_nil, items_below, marked_item, item_step, without_item, items_end, replied_is}
use Rattle.qc_report.proofs.lack.push_replied.Goals as goal
use Rattle.qc_report.proofs.lack.push_replied.Goals.{then-has+in_ok-push_comma+in_ok-write, else-has}

pub loop-copy-preserved : goal.loop-copy-preserved
loop-copy-preserved c =
    let n = c.loop-copy.copy-counter in
    elim c.if-has.branch [
      | then-has+in_ok-push_comma+in_ok-write w ↦
          let there : marked_item c.args.replied n ≡ Some (decimal n) = ap (λ b. if b then Some (decimal n) else None) (sym c.has.ensures ∙ w.if-has.true) in
          let step = item_step c.args.page.now c.loop-copy.page _ _ (marked_item c.args.replied) n c.loop-copy.is_empty (decimal n) there c.loop-copy.invariant.page c.loop-copy.invariant.first w.in_ok-push_comma.ensures w.in_ok-write.ensures in
          record { page = w.page-is ∙ step.0; first = w.is_empty-is ∙ step.1 }
      | else-has w ↦
          let none : marked_item c.args.replied n ≡ None = ap (λ b. if b then Some (decimal n) else None) (sym c.has.ensures ∙ w.if-has.false) in
          let same = without_item (marked_item c.args.replied) n none in
          record {
            page = w.page-is ∙ c.loop-copy.invariant.page ∙ ap (λ ts. c.args.page.now ++ joined ts) (sym same);
            first = w.is_empty-is ∙ c.loop-copy.invariant.first ∙ ap is_nil (sym same);
          }
    ]

pub returns : goal.returns
returns c =
    let item = marked_item c.args.replied in
    let all : c.loop-copy.copy-counter ≡ 16 = omega arith in
    let page = c.loop-copy.invariant.page ∙ ap (λ n. c.args.page.now ++ joined (items_below item n)) all in
    let first = c.loop-copy.invariant.first ∙ ap (λ n. is_nil (items_below item n)) all in
    on_ok_weaker c.push_dash.result (λ is. is ∙ items_end c.args.page.now c.loop-copy.page (items_below item 16) c.loop-copy.is_empty page first ∙ ap (λ t. c.args.page.now ++ t) (replied_is c.args.replied)) c.push_dash.ensures
