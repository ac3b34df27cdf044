-- What is read from bodies that tell values is these values, whatever bodies an image is read as.
use Rattle.std.proofs.Common.{◌≡◌, ℕ, List, [], ◌∷◌, ◌++◌, length, refl, sym, ap, ap₂, ◌∙◌, subst}
use Rattle.std.specs.Prelude.{All, Option, None, Some, map, option_to_list}
use Rattle.std.specs.List.{cons_option, filter_map}
use Rattle.std.proofs.lemmas.List.Elements.{All-head, All-tail, filter_map-append}
use Rattle.qc_codec.specs.Base.{base_in, copy_base, current_copy_base, layout_of, ledger_base, tuples_of_base}
use Rattle.qc_codec.specs.Bodies as body
use Rattle.qc_codec.specs.Copy.{grant_form, grant_in, granted_in}
use Rattle.qc_codec.specs.Fields.{current, current_format}
use Rattle.qc_codec.specs.Form.{Form, all_of}
use Rattle.qc_codec.specs.Ledger.{logged_in, made_for, made_in, readings, record_of_top}
use Rattle.qc_codec.specs.declared.past.Logged.{Logged}
use Rattle.qc_codec.specs.declared.record.BaseRecord.{BaseRecord}
use Rattle.qc_codec.specs.declared.record.LedgerRecord.{LedgerRecord}
use Rattle.qc_codec.specs.declared.record.LedgerRecord.TheVariants as ledger_record
use Rattle.qc_codec.specs.declared.record.Made.{Made}
use Rattle.qc_codec.proofs.Bases.{base_behind, base_told, granted_behind, grant_no_base, ledger_base_told, made_spelled, record_no_base}
use Rattle.qc_codec.proofs.Bodies.{exact_base, exact_grant, exact_ledger, made_fits_ledger}
use Rattle.qc_codec.proofs.Exact.{IsExact, all_again}
use Rattle.qc_config.specs.declared.tuple.Tuple.{Tuple}
use Rattle.qc_event.specs.declared.event.Grant.{Grant}
use Rattle.qc_event.specs.declared.table.Table.{Table}
use Rattle.qc_journal.proofs.Readings.{records-same}
use Rattle.qc_journal.specs.Image.{HasRecords}
use Rattle.qc_refine.specs.Images.{IsCopyBodies, IsCopyImage, IsLedgerBodies}
use Rattle.qc_refine.proofs.Restoring.Actives.{IsLedgerImage}

-- WHAT IS READ

-- what was spelled in a form is read again
pub read_again : {A : Type 0} (f : Form A) → IsExact f → (xs : List A) → All f.fits xs → readings f (map f.spell xs) ≡ xs
read_again f exact [] fit = refl
read_again {A} f exact (x ∷ xs) fit =
    ap₂ (λ (o : Option A) (rest : List A). cons_option o rest) (all_again f exact x (All-head f.fits x xs fit)) (read_again f exact xs (All-tail f.fits x xs fit))

-- tops that were written are told
pub tops_told : (ls : List Logged) → filter_map logged_in (map record_of_top ls) ≡ ls
tops_told [] = refl
tops_told (l ∷ ls) = ap (λ (rest : List Logged). l ∷ rest) (tops_told ls)

-- a made record tells no grant
pub made_told : (format : ℕ) (table : Table) (made : Made) (bodies : List (List ℕ)) → readings (grant_in format table) (body.made.spell made ∷ bodies) ≡ readings (grant_in format table) bodies
unfolding body.made body.grant
made_told format table made bodies = refl

-- nor a top
made_no_top : (made : Made) (bodies : List (List ℕ)) → body.made.fits made → filter_map logged_in (readings body.ledger (body.made.spell made ∷ bodies)) ≡ filter_map logged_in (readings body.ledger bodies)
made_no_top made bodies fits =
    ap (λ (o : Option LedgerRecord). filter_map logged_in (cons_option o (readings body.ledger bodies)))
    (ap (all_of body.ledger) (sym (made_spelled made)) ∙ all_again body.ledger exact_ledger (ledger_record.Made made) (made_fits_ledger made fits))

-- WHAT BODIES TELL

module _ (made : Made) where
  -- forms of bases are exact
  pub exact_copy_base : IsExact (copy_base made)
  exact_copy_base = exact_base (layout_of made) (length made.table.records)

  pub exact_ledger_base : IsExact (ledger_base made)
  exact_ledger_base = exact_base (layout_of made) 0

  -- a base that was written is read, and where none was, none is read from records that are no bases
  pub base_read : {A : Type 0} (form : Made → Form BaseRecord) (f : Form A) → IsExact (form made) → ((x : A) → all_of (form made) (f.spell x) ≡ None)
      → body.made.fits made → (base : Option BaseRecord) → All (form made).fits (option_to_list base) → (xs : List A)
      → base_in form (body.made.spell made ∷ (map (form made).spell (option_to_list base) ++ map f.spell xs)) ≡ base
  base_read form f exact no_base made_fits None fits [] = refl
  base_read form f exact no_base made_fits None fits (x ∷ xs) = base_behind form made (f.spell x) (map f.spell xs) made_fits ∙ no_base x
  base_read form f exact no_base made_fits (Some b) fits xs =
      base_behind form made ((form made).spell b) (map f.spell xs) made_fits ∙ all_again (form made) exact b (All-head (form made).fits b [] fits)

module _ (table : Table) where
  -- a copy's bodies tell its base, what it granted, and with what it begins
  pub copy_base_read : (begin : List Tuple) (granted : List Grant) (disk : ℕ) (bodies : List (List ℕ)) (is : IsCopyBodies table begin granted disk bodies) → base_in copy_base bodies ≡ is.base
  copy_base_read begin granted disk bodies is = let made = made_for disk table in
      ap (base_in copy_base) is.are ∙ base_read made copy_base (grant_form table) (exact_copy_base made) (grant_no_base current_format made table) is.made_fits is.base is.base_fits granted

  pub copy_told : (begin : List Tuple) (granted : List Grant) (disk : ℕ) (bodies : List (List ℕ)) → IsCopyBodies table begin granted disk bodies → (granted_in table bodies ≡ granted) × (tuples_of_base table (base_in copy_base bodies) ≡ begin)
  copy_told begin granted disk bodies is = (
    ap (granted_in table) is.are
        ∙ granted_behind disk table (map (current_copy_base table).spell (option_to_list is.base) ++ given) is.made_fits
        ∙ made_told current_format table (made_for disk table) (map (current_copy_base table).spell (option_to_list is.base) ++ given)
        ∙ behind_base is.base
        ∙ read_again (grant_form table) (exact_grant (current table.copies)) granted is.grants_fit,
    ap (tuples_of_base table) (copy_base_read begin granted disk bodies is) ∙ sym is.begin_is,
  )
    where
      given : List (List ℕ)
      given = map (grant_form table).spell granted

      behind_base : (base : Option BaseRecord) → readings (grant_form table) (map (current_copy_base table).spell (option_to_list base) ++ given) ≡ readings (grant_form table) given
      behind_base None = refl
      behind_base (Some b) = base_told current_format (made_for disk table) table b given

  -- the ledger's tell its base, and the tops
  pub ledger_base_read : (epoch : ℕ) (before since : List Logged) (disk : ℕ) (bodies : List (List ℕ)) (is : IsLedgerBodies table epoch before since disk bodies) → base_in ledger_base bodies ≡ is.base
  ledger_base_read epoch before since disk bodies is =
      let made = made_in is.format disk table in
      ap (base_in ledger_base) is.are
      ∙ base_read made ledger_base body.ledger (exact_ledger_base made) (record_no_base made) is.made_fits is.base is.base_fits (is.old ++ ledger_record.Epoch epoch ∷ map record_of_top since)

  pub ledger_told : (epoch : ℕ) (before since : List Logged) (disk : ℕ) (bodies : List (List ℕ)) → IsLedgerBodies table epoch before since disk bodies → filter_map logged_in (readings body.ledger bodies) ≡ before ++ since
  ledger_told epoch before since disk bodies is =
      ap (λ bs. filter_map logged_in (readings body.ledger bs)) is.are
      ∙ made_no_top made (map (ledger_base made).spell (option_to_list is.base) ++ map body.ledger.spell records) is.made_fits
      ∙ ap (filter_map logged_in) (behind_base is.base ∙ read_again body.ledger exact_ledger records is.fit)
      ∙ filter_map-append logged_in is.old (ledger_record.Epoch epoch ∷ map record_of_top since)
      ∙ ap₂ (λ (xs ys : List Logged). xs ++ ys) is.old_tops (tops_told since)
    where
      made : Made
      made = made_in is.format disk table

      records : List LedgerRecord
      records = is.old ++ ledger_record.Epoch epoch ∷ map record_of_top since

      behind_base : (base : Option BaseRecord) → readings body.ledger (map (ledger_base made).spell (option_to_list base) ++ map body.ledger.spell records) ≡ readings body.ledger (map body.ledger.spell records)
      behind_base None = refl
      behind_base (Some b) = ledger_base_told made b (map body.ledger.spell records)

-- WHAT IMAGES TELL

-- whatever bodies are read of an image, on the disk of this number, tell what it does
module _ (table : Table) (image : List ℕ) (bodies : List (List ℕ)) (has : HasRecords bodies image) (disk : ℕ) where
  pub ledger_tells : (epoch : ℕ) (before since : List Logged) → IsLedgerImage table epoch before since disk image → IsLedgerBodies table epoch before since disk bodies
  ledger_tells epoch before since is = subst (IsLedgerBodies table epoch before since disk) (sym (records-same image is.bodies bodies is.has has)) is.tells

  pub copy_tells : (begin : List Tuple) (granted : List Grant) → IsCopyImage table begin granted disk image → IsCopyBodies table begin granted disk bodies
  copy_tells begin granted is = subst (IsCopyBodies table begin granted disk) (sym (records-same image is.bodies bodies is.has has)) is.tells
