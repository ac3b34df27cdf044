-- What a base record is read as, and what it is not; and the format of a journal's bodies.
use Rattle.std.proofs.Common.{◌≡◌, ℕ, List, [], ◌∷◌, refl, sym, ap, ap₂, ◌∙◌}
use Rattle.std.specs.Prelude.{Option, None, Some, unwrap_or}
use Rattle.std.specs.Option.{option_and_then, option_map}
use Rattle.qc_codec.specs.Base.{base_in, copy_base, format_in, ledger_base}
use Rattle.qc_codec.specs.Bodies as body
use Rattle.qc_codec.specs.Copy.{grant_form, grant_in, granted_in}
use Rattle.qc_codec.specs.Fields.{current_format}
use Rattle.qc_codec.specs.Form.{Form, all_of}
use Rattle.qc_codec.specs.Gives.{Spells}
use Rattle.qc_codec.specs.Ledger.{made_for, readings}
use Rattle.qc_codec.specs.declared.record.BaseRecord.{BaseRecord}
use Rattle.qc_codec.specs.declared.record.LedgerRecord.{LedgerRecord}
use Rattle.qc_codec.specs.declared.record.LedgerRecord.TheVariants as ledger_record
use Rattle.qc_codec.specs.declared.record.Made.{Made}
use Rattle.qc_codec.proofs.Bodies.{exact_made}
use Rattle.qc_codec.proofs.Exact.{all_again}
use Rattle.qc_codec.proofs.Fits.{made_renewed}
use Rattle.qc_event.specs.declared.event.Grant.{Grant}
use Rattle.qc_event.specs.declared.table.Table.{Table}

-- WHAT IT IS NOT

-- a base record tells no grant
pub base_told : (format : ℕ) (made : Made) (table : Table) (b : BaseRecord) (bodies : List (List ℕ)) → readings (grant_in format table) ((copy_base made).spell b ∷ bodies) ≡ readings (grant_in format table) bodies
unfolding body.base body.grant
base_told format made table b bodies = refl

-- nor a record of the ledger
pub ledger_base_told : (made : Made) (b : BaseRecord) (bodies : List (List ℕ)) → readings body.ledger ((ledger_base made).spell b ∷ bodies) ≡ readings body.ledger bodies
unfolding body.base body.ledger
ledger_base_told made b bodies = refl

-- a grant is no base
pub grant_no_base : (format : ℕ) (made : Made) (table : Table) (g : Grant) → all_of (copy_base made) ((grant_in format table).spell g) ≡ None
unfolding body.base body.grant
grant_no_base format made table g = refl

-- nor is a record of the ledger
pub record_no_base : (made : Made) (r : LedgerRecord) → all_of (ledger_base made) (body.ledger.spell r) ≡ None
unfolding body.base body.ledger
record_no_base made (ledger_record.Made m) = refl
record_no_base made (ledger_record.Epoch e) = refl
record_no_base made (ledger_record.Top [] aborted) = refl
record_no_base made (ledger_record.Top (n ∷ []) aborted) = refl
record_no_base made (ledger_record.Top (n ∷ k ∷ rest) aborted) = refl

-- a made record of the ledger's is one of its records
pub made_spelled : (made : Made) → body.ledger.spell (ledger_record.Made made) ≡ body.made.spell made
unfolding body.made body.ledger
made_spelled made = refl

-- THE FORMAT

-- bodies have the format of the made record before them
pub format_behind : (made : Made) (bodies : List (List ℕ)) → body.made.fits made → format_in (body.made.spell made ∷ bodies) ≡ made.format
format_behind made bodies fits =
    ap (λ (o : Option Made). unwrap_or (option_map (λ (m : Made). m.format) o) current_format) (all_again body.made exact_made made fits)

-- behind one of the current format grants are read in that
pub granted_behind : (number : ℕ) (table : Table) (bodies : List (List ℕ)) → body.made.fits (made_for number table)
    → granted_in table (body.made.spell (made_for number table) ∷ bodies) ≡ readings (grant_form table) (body.made.spell (made_for number table) ∷ bodies)
granted_behind number table bodies fits =
    ap (λ (format : ℕ). readings (grant_in format table) (body.made.spell (made_for number table) ∷ bodies)) (format_behind (made_for number table) bodies fits)

-- made records that are spelled alike are the same
pub made_alike : (a b : Made) → body.made.fits a → body.made.fits b → body.made.spell a ≡ body.made.spell b → a ≡ b
made_alike a b fits fit same =
    let one : Some a ≡ Some b = sym (all_again body.made exact_made a fits) ∙ ap (all_of body.made) same ∙ all_again body.made exact_made b fit in cc

-- of one disk that tell one table, they are spelled alike in the current format, and only those
pub one_table : (kept made : Made) (bytes : List ℕ) → kept.who ≡ made.who → body.made.fits kept → body.made.fits made → Spells body.made bytes (made_for kept.who kept.table)
    → bytes ≡ body.made.spell (made_for made.who made.table) → kept.table ≡ made.table
one_table kept made bytes of fits fit spells same =
    ap (λ (m : Made). m.table)
    (made_alike (made_for kept.who kept.table) (made_for made.who made.table) (made_renewed kept fits) (made_renewed made fit) (sym spells.0 ∙ same))

pub one_spelling : (kept made : Made) (bytes : List ℕ) → kept.who ≡ made.who → Spells body.made bytes (made_for kept.who kept.table) → kept.table ≡ made.table
    → bytes ≡ body.made.spell (made_for made.who made.table)
one_spelling kept made bytes of spells same = spells.0 ∙ ap body.made.spell (ap₂ made_for of same)

-- HOW IT IS READ

-- what stands second is read by the made record
pub base_behind : (form : Made → Form BaseRecord) (made : Made) (second : List ℕ) (bodies : List (List ℕ)) → body.made.fits made → base_in form (body.made.spell made ∷ second ∷ bodies) ≡ all_of (form made) second
base_behind form made second bodies fits =
    ap (option_and_then (λ (m : Made). all_of (form m) second)) (all_again body.made exact_made made fits)
