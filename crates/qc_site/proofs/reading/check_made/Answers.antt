-- The same bytes are the same record, and the same bytes in the current format the same table.
use mathlib.Core.Bool.{true≢false}
use Rattle.std.proofs.Common.{◌≡◌, ◌∙◌, ℕ, Some, ap, ap₂, arith, refl, sym, subst}
use Rattle.std.proofs.lemmas.Bool.Decides.{Decides-eqb}
use Rattle.std.proofs.lemmas.Slice.Eq.{slice_eq-Decides}
use Rattle.qc_codec.specs.Bodies as body
use Rattle.qc_codec.specs.Form.{all_of}
use Rattle.qc_codec.specs.Ledger.{made_for, made_in}
use Rattle.qc_codec.proofs.Fits.{made_proper}
use Rattle.qc_codec.proofs.Bases.{one_spelling, one_table}
use Rattle.qc_codec.proofs.Bodies.{exact_made}
use Rattle.qc_codec.proofs.Exact.{all_again}
use Rattle.qc_event.specs.declared.table.Table.{Table}
use Rattle.qc_site.specs.Reading.{IsFirstBad}
use Rattle.qc_site.specs.Refusing.{IsOfBytes}
use Rattle.qc_site.proofs.reading.check_made.Goals as goal

pub returns-then-eq-clause-made : goal.returns-then-eq-clause-made
returns-then-eq-clause-made c =
    ap (all_of body.made) ((slice_eq-Decides Decides-eqb _ _ _ c.eq.ensures).0 c.if-eq.true ∙ c.requires.spelled)
    ∙ all_again body.made exact_made (made_for c.args.who c.args.table.now) (made_proper c.args.who c.args.table.now (omega arith) c.requires.fits)

pub write_made_anew-requires : goal.write_made_anew-requires
write_made_anew-requires c = record { proper = c.in-Ok.ensures.found.1 }

pub returns-then-eq-2-clause-made : goal.returns-then-eq-2-clause-made
returns-then-eq-2-clause-made c =
    let kept = c.in-Ok.kept in
    let made = made_for c.args.who c.args.table.now in
    let same : kept.who ≡ made.who = c.if-read_made-who.true in
    let table = one_table kept made c.in_ok-write_made_anew.field-0.items same c.in-Ok.ensures.found.1 (made_proper c.args.who c.args.table.now (omega arith) c.requires.fits) c.in_ok-write_made_anew.ensures
    (sym c.as_slice.ensures.value ∙ (slice_eq-Decides Decides-eqb _ _ _ c.eq-2.ensures).0 c.if-eq-2.true ∙ c.requires.spelled) in
    c.in-Ok.ensures.exact ∙ ap₂ (λ (n : ℕ) (t : Table). Some (made_in kept.format n t)) same table

pub returns-clause-fault : goal.returns-clause-fault
returns-clause-fault c = λ past.
    let who = c.args.who in
    let table = c.args.table.now in
    let first = c.args.first.now in
    let kept = c.in-Ok.kept in
    let made = made_for who table in
    let same : kept.who ≡ who = c.if-read_made-who.true in
    subst (IsOfBytes who (IsFirstBad who table past first)) (sym c.image_no-2.ensures) (
      refl,
      (
        c.in_ok-asked.ensures,
        (λ alone.
            let alike = c.as_slice.ensures.value ∙ one_spelling kept made c.in_ok-write_made_anew.field-0.items same c.in_ok-write_made_anew.ensures alone ∙ sym c.requires.spelled in
            true≢false (sym ((slice_eq-Decides Decides-eqb _ _ _ c.eq-2.ensures).1 alike) ∙ c.if-eq-2.false)),
        (kept.format, c.in-Ok.ensures.exact ∙ ap (λ (n : ℕ). Some (made_in kept.format n kept.table)) same),
      ),
    )
