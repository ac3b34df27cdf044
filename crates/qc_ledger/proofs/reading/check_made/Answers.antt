-- The same bytes are the same record, and the same bytes in the current format the same table.
use mathlib.Core.Bool.{true≢false}
use Rattle.std.proofs.Common.{◌≡◌, ◌∙◌, ℕ, Some, ap, ap₂, refl, sym, subst}
use Rattle.std.proofs.lemmas.Bool.Decides.{Decides-eqb}
use Rattle.std.proofs.lemmas.Slice.Eq.{slice_eq-Decides}
use Rattle.qc_codec.specs.Bodies as body
use Rattle.qc_codec.specs.Form.{all_of}
use Rattle.qc_codec.specs.Gives.{Spells}
use Rattle.qc_codec.specs.Ledger.{made_for, made_in}
use Rattle.qc_codec.specs.declared.record.LedgerRecord.{LedgerRecord}
use Rattle.qc_codec.specs.declared.record.LedgerRecord.TheVariants as ledger_record
use Rattle.qc_codec.specs.declared.record.Made.{Made}
use Rattle.qc_codec.proofs.Bases.{made_spelled, one_spelling, one_table}
use Rattle.qc_event.specs.declared.table.Table.{Table}
use Rattle.qc_ledger.specs.Reading.{IsFirstBad}
use Rattle.qc_ledger.specs.Refusing.{IsOfBytes}
use Rattle.qc_ledger.proofs.Firsts.{made_again, made_alone, made_of_disk, made_read}
use Rattle.qc_ledger.proofs.reading.check_made.Goals as goal

pub returns-then-eq-clause-made : goal.returns-then-eq-clause-made
returns-then-eq-clause-made c =
    ap (all_of body.ledger) ((slice_eq-Decides Decides-eqb _ _ _ c.eq.ensures).0 c.if-eq.true ∙ c.requires.spelled)
    ∙ made_again c.args.made c.requires.fits

pub returns-then-eq-clause-over : goal.returns-then-eq-clause-over
returns-then-eq-clause-over c =
    ap (all_of body.made) ((slice_eq-Decides Decides-eqb _ _ _ c.eq.ensures).0 c.if-eq.true ∙ c.requires.spelled)
    ∙ made_alone c.args.made c.requires.fits

pub write_made_anew-requires : goal.write_made_anew-requires
write_made_anew-requires c = record {
  proper = made_of_disk c.in-Ok-Made.kept (subst (Spells body.ledger c.args.first.now) c.in-Ok-Made.field-0-is c.in-Ok-Made.ensures.found).1;
}

pub returns-then-eq-2-clause-made : goal.returns-then-eq-2-clause-made
returns-then-eq-2-clause-made c =
    let kept = c.in-Ok-Made.kept in
    let made = c.args.made in
    let found : Spells body.ledger c.args.first.now (ledger_record.Made kept) = subst (Spells body.ledger c.args.first.now) c.in-Ok-Made.field-0-is c.in-Ok-Made.ensures.found in
    let read : all_of body.ledger c.args.first.now ≡ Some (ledger_record.Made kept) = c.in-Ok-Made.ensures.exact ∙ ap (λ (r : LedgerRecord). Some r) c.in-Ok-Made.field-0-is in
    let same : kept.who ≡ made.who = c.if-read_ledger-who.true in
    let table = one_table kept made c.in_ok-write_made_anew.field-0.items same (made_of_disk kept found.1) c.requires.fits c.in_ok-write_made_anew.ensures
    (sym c.as_slice.ensures.value ∙ (slice_eq-Decides Decides-eqb _ _ _ c.eq-2.ensures).0 c.if-eq-2.true ∙ c.requires.spelled ∙ made_spelled (made_for made.who made.table)) in
    read ∙ ap₂ (λ (n : ℕ) (t : Table). Some (ledger_record.Made (made_in kept.format n t))) same table

pub returns-then-eq-2-clause-over : goal.returns-then-eq-2-clause-over
returns-then-eq-2-clause-over c =
    let kept = c.in-Ok-Made.kept in
    let made = c.args.made in
    let found : Spells body.ledger c.args.first.now (ledger_record.Made kept) = subst (Spells body.ledger c.args.first.now) c.in-Ok-Made.field-0-is c.in-Ok-Made.ensures.found in
    let same : kept.who ≡ made.who = c.if-read_ledger-who.true in
    let table = one_table kept made c.in_ok-write_made_anew.field-0.items same (made_of_disk kept found.1) c.requires.fits c.in_ok-write_made_anew.ensures
    (sym c.as_slice.ensures.value ∙ (slice_eq-Decides Decides-eqb _ _ _ c.eq-2.ensures).0 c.if-eq-2.true ∙ c.requires.spelled ∙ made_spelled (made_for made.who made.table)) in
    made_read kept c.args.first.now found ∙ ap₂ (λ (n : ℕ) (t : Table). Some (made_in kept.format n t)) same table

pub returns-clause-fault : goal.returns-clause-fault
returns-clause-fault c =
    let kept = c.in-Ok-Made.kept in
    let made = c.args.made in
    let who = made.who in
    let first = c.args.first.now in
    let read : all_of body.ledger first ≡ Some (ledger_record.Made kept) = c.in-Ok-Made.ensures.exact ∙ ap (λ (r : LedgerRecord). Some r) c.in-Ok-Made.field-0-is in
    let same : kept.who ≡ who = c.if-read_ledger-who.true in
    subst (IsOfBytes who (IsFirstBad who made.table first)) (sym c.image_no-2.ensures) (
      refl,
      (
        refl,
        (λ table.
            let alike = c.as_slice.ensures.value ∙ one_spelling kept made c.in_ok-write_made_anew.field-0.items same c.in_ok-write_made_anew.ensures table
            ∙ sym (made_spelled (made_for who made.table)) ∙ sym c.requires.spelled in
            true≢false (sym ((slice_eq-Decides Decides-eqb _ _ _ c.eq-2.ensures).1 alike) ∙ c.if-eq-2.false)),
        (kept.format, read ∙ ap (λ (n : ℕ). Some (ledger_record.Made (made_in kept.format n kept.table))) same),
      ),
    )
