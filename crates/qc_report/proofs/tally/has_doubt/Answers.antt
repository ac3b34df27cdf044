use Rattle.std.proofs.Common.{◌∙◌, ap, ap₂, sym, Bool}
use Rattle.std.specs.Prelude.{◌||◌}
use Rattle.std.proofs.lemmas.List.Folds.{list_any_more}
use Rattle.std.proofs.lemmas.Option.{slice_get_within}
use Rattle.qc_event.specs.declared.event.Entry.{Entry}
use Rattle.qc_report.specs.Report.{in_doubt}
use Rattle.qc_trail.proofs.Outlined.{outlined}
use Rattle.qc_report.proofs.Further.{read_there}
use Rattle.qc_report.proofs.tally.has_doubt.Goals as goal

pub loop-at-preserved : goal.loop-at-preserved
loop-at-preserved c =
    let es = c.trail-trail.result.now in
    let i = c.loop-at.at in
    let here = outlined es i c.outline.result c.outline.ensures in
    let e = here.entry in
    let test = λ (x : Entry). in_doubt c.args.history.now x.event in
    ap₂ (λ (b : Bool) (d : Bool). b || d) c.loop-at.invariant (c.in_doubt-doubt.ensures e.event here.is ∙ ap test (read_there es i e here.there))
    ∙ sym (list_any_more test es i e (slice_get_within es i e here.there))
