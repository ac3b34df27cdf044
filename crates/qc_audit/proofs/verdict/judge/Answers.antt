use Rattle.std.proofs.Common.{◌≡◌, List, [], length, reverse, refl, sym, ap, ◌∙◌, subst}
use Rattle.qc_config.specs.Config.{Voting}
use Rattle.qc_event.specs.declared.event.Entry.{Entry}
use Rattle.qc_event.specs.declared.table.Row.{Row}
use Rattle.qc_event.specs.Legal.{Legal}
use Rattle.qc_event.specs.Tables.{first_configs}
use Rattle.qc_report.specs.LastValues.{values_by_version}
use Rattle.qc_serial.specs.Shape.{first_unfound}
use Rattle.qc_serial.specs.Walk.{walk}
use Rattle.qc_audit.specs.Verdicts.{IsLegal, order_of, start_values}
use Rattle.qc_audit.proofs.Judged.{is_serial, is_unserial}
use Rattle.qc_audit.proofs.verdict.judge.Goals as goal

pub returns-in-Some : goal.returns-in-Some
returns-in-Some c =
    let table = c.args.table in
    let trail = c.args.trail.now in
    let entries_are : c.as_slice-entries.result.now ≡ trail.entries = c.as_slice-entries.ensures in
    let firsts_are : c.as_slice.result.now ≡ first_configs table = c.as_slice.ensures.value ∙ c.in_ok-firsts.ensures in
    let legal : IsLegal table trail =
    subst (λ (firsts : List Voting). Legal (record { firsts = firsts; base = trail.base }) (reverse trail.entries)) firsts_are
    (subst (λ (es : List Entry). Legal (record { firsts = c.as_slice.result.now; base = trail.base }) (reverse es)) entries_are c.in-Ok.ensures.legal) in
    let starts_are : c.as_slice-3.result.now ≡ start_values table trail =
    c.as_slice-3.ensures.value ∙ c.in_ok-starts.ensures ∙ ap (λ (rows : List Row). values_by_version trail.base [] (length rows)) c.as_slice-2.ensures in
    let order_are : c.as_slice-4.result.now ≡ order_of trail =
    c.as_slice-4.ensures ∙ c.in-Ok.ensures.order ∙ ap (λ (es : List Entry). walk (reverse es) []) entries_are in
    is_unserial table trail legal c.in-Some.place
    (sym (c.in_ok-place.ensures ∙ ap (λ starts. first_unfound starts c.as_slice-4.result.now) starts_are ∙ ap (first_unfound (start_values table trail)) order_are) ∙ c.in-Some.is)

pub returns-in-None : goal.returns-in-None
returns-in-None c =
    let table = c.args.table in
    let trail = c.args.trail.now in
    let entries_are : c.as_slice-entries.result.now ≡ trail.entries = c.as_slice-entries.ensures in
    let firsts_are : c.as_slice.result.now ≡ first_configs table = c.as_slice.ensures.value ∙ c.in_ok-firsts.ensures in
    let legal : IsLegal table trail =
    subst (λ (firsts : List Voting). Legal (record { firsts = firsts; base = trail.base }) (reverse trail.entries)) firsts_are
    (subst (λ (es : List Entry). Legal (record { firsts = c.as_slice.result.now; base = trail.base }) (reverse es)) entries_are c.in-Ok.ensures.legal) in
    let starts_are : c.as_slice-3.result.now ≡ start_values table trail =
    c.as_slice-3.ensures.value ∙ c.in_ok-starts.ensures ∙ ap (λ (rows : List Row). values_by_version trail.base [] (length rows)) c.as_slice-2.ensures in
    let order : c.in-Ok.events ≡ order_of trail = c.in-Ok.ensures.order ∙ ap (λ (es : List Entry). walk (reverse es) []) entries_are in
    let order_are : c.as_slice-4.result.now ≡ order_of trail = c.as_slice-4.ensures ∙ order in (
      refl,
      ap length entries_are,
      order,
      is_serial table trail legal
          (sym (c.in_ok-place.ensures ∙ ap (λ starts. first_unfound starts c.as_slice-4.result.now) starts_are ∙ ap (first_unfound (start_values table trail)) order_are) ∙ c.in-None.is),
    )
