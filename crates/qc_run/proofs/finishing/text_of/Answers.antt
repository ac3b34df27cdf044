use Rattle.std.proofs.Common.{◌≡◌, ◌∙◌, List, length, reverse, ap, subst, sym}
use Rattle.std.specs.Prelude.{IfOk}
use Rattle.qc_config.specs.Val.{Datum}
use Rattle.qc_event.specs.declared.event.Entry.{Entry}
use Rattle.qc_report.specs.LastValues.{values_by_version}
use Rattle.qc_report.specs.Report.{report, summary}
use Rattle.qc_run.specs.Run.{text_by}
use Rattle.qc_run.proofs.finishing.text_of.Goals as goal

pub returns-in_ok-values-in-Report-clause-text : goal.returns-in_ok-values-in-Report-clause-text
returns-in_ok-values-in-Report-clause-text c =
    let table = c.args.table.now in
    let start = c.args.start.now in
    let written = c.report.result in
    let values = c.as_slice.ensures.value ∙ c.in_ok-values-in-Report.ensures ∙ ap (λ (t : List Entry). values_by_version start (reverse t) (length table.records)) c.requires.same in
    subst (λ form. IfOk written (λ text. text.items ≡ text_by form table start c.args.trail.now)) (sym c.in-Report.is)
    (subst (λ (vs : List Datum). IfOk written (λ text. text.items ≡ report table vs c.args.trail.now)) values
    (subst (λ (t : List Entry). IfOk written (λ text. text.items ≡ report table c.as_slice.result.now t)) c.requires.same c.report.ensures))

pub returns-in_ok-values-in-Summary-clause-text : goal.returns-in_ok-values-in-Summary-clause-text
returns-in_ok-values-in-Summary-clause-text c =
    let table = c.args.table.now in
    let start = c.args.start.now in
    let written = c.summary.result in
    let values = c.as_slice-in-Summary.ensures.value ∙ c.in_ok-values-in-Summary.ensures ∙ ap (λ (t : List Entry). values_by_version start (reverse t) (length table.records)) c.requires.same in
    subst (λ form. IfOk written (λ text. text.items ≡ text_by form table start c.args.trail.now)) (sym c.in-Summary.is)
    (subst (λ (vs : List Datum). IfOk written (λ text. text.items ≡ summary table vs c.args.trail.now)) values
    (subst (λ (t : List Entry). IfOk written (λ text. text.items ≡ summary table c.as_slice-in-Summary.result.now t)) c.requires.same c.summary.ensures))
