use Rattle.std.proofs.Common.{ℕ, ◌<◌, ◌^◌, ◌++◌, List, length, ap₂, sym, subst, ◌∙◌}
use Rattle.std.specs.Prelude.{Result, Ok, Err, OnOk}
use Rattle.std.proofs.lemmas.Result.{IfOk-weaker}
use Rattle.qc_codec.specs.Fields.{word}
use Rattle.qc_event.specs.Tables.{setting_of}
use Rattle.qc_trail_codec.specs.declared.record.SavedTrail.{SavedTrail}
use Rattle.qc_audit.proofs.SavedForms.{is_saved, sizes}
use Rattle.qc_audit.proofs.saving.saved.Goals as goal

pub write_trail-requires-clause-base : goal.write_trail-requires-clause-base
write_trail-requires-clause-base c = c.legal_histories_can_be_saved.ensures.base (setting_of c.args.table.now c.args.base.now) c.requires.proper

pub write_trail-requires-clause-entries : goal.write_trail-requires-clause-entries
write_trail-requires-clause-entries c = c.legal_histories_can_be_saved.ensures.entries (setting_of c.args.table.now c.args.base.now) c.args.trail.now c.requires.proper c.requires.legal

pub joined-requires : goal.joined-requires
joined-requires c = subst (λ (xs : List ℕ). length xs < 2 ^ 32) (sym c.as_slice.ensures.value) c.in_ok-front.ensures.short

pub returns-clause-text : goal.returns-clause-text
returns-clause-text c =
    IfOk-weaker c.joined.result _ _ (λ bytes is. is ∙ ap₂ (λ (front back : List ℕ). word.spell (length front) ++ (front ++ back)) (c.as_slice.ensures.value ∙ c.in_ok-front.ensures.made.0) (c.as_slice-2.ensures.value ∙ c.in_ok-back.ensures.0)) c.joined.ensures

on_ok : {T E : Type 0} (written : Result T E) (P : Type 0) → P → OnOk written P
on_ok (Ok x) P is = is
on_ok (Err e) P is = tt

pub returns-clause-saved : goal.returns-clause-saved
returns-clause-saved c =
    let trail : SavedTrail = record { base = c.args.base.now; entries = c.args.trail.now } in
    on_ok c.joined.result _ (is_saved c.args.table.now trail c.requires.spelled c.in_ok-back.ensures.1 (sizes c.args.table.now c.args.base.now c.requires.as_many c.requires.proper))
