use Rattle.std.proofs.Common.{◌≡◌, ◌++◌, ◌∙◌, ap, sym, append_assoc}
use Rattle.std.specs.Prelude.{Some, None, codes}
use Rattle.std.specs.Fmt.{decimal}
use Rattle.std.specs.Option.{option_map}
use Rattle.qc_event.specs.declared.event.Why.{Why}
use Rattle.qc_report.specs.Report.{missing_item, why_word}
use Rattle.qc_report.proofs.Listed.{joined, is_nil, item_step, without_item}
use Rattle.qc_report.proofs.lack.push_missing.Goals as goal
use Rattle.qc_report.proofs.lack.push_missing.Goals.{in-Some+in_ok-push_comma+in_ok-write, in_default}

pub loop-copy-preserved : goal.loop-copy-preserved
loop-copy-preserved c =
    let n = c.loop-copy.copy-counter in
    elim c.match-missing-copy.branch [
      | in-Some+in_ok-push_comma+in_ok-write w ↦
          let text = decimal n ++ codes ":" ++ why_word w.in-Some.why in
          let there : missing_item c.args.missing.now n ≡ Some text = ap (option_map (λ (why : Why). decimal n ++ codes ":" ++ why_word why)) w.in-Some.is in
          let written : w.write.new.self ≡ w.push_comma.new.page ++ text =
          w.in_ok-write.ensures
          ∙ ap (λ t. w.push_comma.new.page ++ t) (sym (append_assoc (decimal n) (codes ":") w.why_word-word.result.now) ∙ ap (λ t. decimal n ++ codes ":" ++ t) w.why_word-word.ensures) in
          let step = item_step c.args.page.now c.loop-copy.page _ _ (missing_item c.args.missing.now) n c.loop-copy.is_empty text there c.loop-copy.invariant.page c.loop-copy.invariant.first w.in_ok-push_comma.ensures written in
          record { page = w.page-is ∙ step.0; first = w.is_empty-is ∙ step.1 }
      | in_default w ↦
          let none : missing_item c.args.missing.now n ≡ None = ap (option_map (λ (why : Why). decimal n ++ codes ":" ++ why_word why)) w.in_default.is in
          let same = without_item (missing_item c.args.missing.now) n none in
          record {
            page = w.page-is ∙ c.loop-copy.invariant.page ∙ ap (λ ts. c.args.page.now ++ joined ts) (sym same);
            first = w.is_empty-is ∙ c.loop-copy.invariant.first ∙ ap is_nil (sym same);
          }
    ]
