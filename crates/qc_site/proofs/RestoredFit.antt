-- What a copy's bodies restore, in whatever format they are, fits the current one.
use Rattle.std.proofs.Common.{◌≡◌, ℕ, ◌<◌, ◌^◌, List, [], ◌∷◌, length, refl, sym, subst, arith}
use Rattle.std.specs.Prelude.{Bool, true, false, if◌then◌else◌, filter, map, Option, None, Some}
use Rattle.std.specs.List.{All, cons_option, range_with_len}
use Rattle.std.specs.Option.{option_and_then}
use Rattle.std.proofs.lemmas.List.{length-map}
use Rattle.std.proofs.lemmas.List.Elements.{All-nil, All-cons, All-head, All-tail, All-from_get_or}
use Rattle.std.proofs.lemmas.List.FromFn.{get_or-map-range_with_len, length-map-range_with_len}
use Rattle.qc_config.specs.Tuple.{after}
use Rattle.qc_config.specs.Val.{Datum}
use Rattle.qc_config.specs.declared.tuple.Op.{Op}
use Rattle.qc_config.specs.declared.tuple.Op.TheVariants.{Get, PutData, PutConfig}
use Rattle.qc_config.specs.declared.tuple.Tuple.{Tuple}
use Rattle.qc_event.specs.Base.{no_tuple}
use Rattle.qc_event.specs.Grants.{Sets}
use Rattle.qc_event.specs.Seen.{changed_by}
use Rattle.qc_event.specs.Tables.{first_tuple}
use Rattle.qc_event.specs.declared.event.Grant.{Grant}
use Rattle.qc_event.specs.declared.table.Row.{Row}
use Rattle.qc_event.specs.declared.table.Table.{Table}
use Rattle.qc_codec.specs.Base.{base_in, copy_base, format_in, tuples_of_base}
use Rattle.qc_codec.specs.Bodies as body
use Rattle.qc_codec.specs.Copy.{granted_in}
use Rattle.qc_codec.specs.Fields.{config, current, current_format, datum, layout, long, tuple}
use Rattle.qc_codec.specs.Form.{Form, all_of}
use Rattle.qc_codec.specs.Ledger.{made_in, readings}
use Rattle.qc_codec.specs.Restored.{is_kept_at, restored_tuple}
use Rattle.qc_codec.specs.declared.past.Logged.{Logged}
use Rattle.qc_codec.specs.declared.record.BaseRecord.{BaseRecord}
use Rattle.qc_codec.specs.declared.record.Made.{Made}
use Rattle.qc_codec.proofs.Bodies.{exact_base, exact_grant}
use Rattle.qc_codec.proofs.Exact.{all_takes}
use Rattle.qc_codec.proofs.Fits.{tuple_renewed}
use Rattle.qc_desk.specs.Held.{from_row}
use Rattle.qc_site.specs.Image.{AreBytes, AreMadeFor}
use Rattle.qc_site.specs.Renewal.{restored_in}
use Rattle.qc_site.proofs.OfBytes.{Bytes, are_bytes}

module _ (copies : ℕ) where
  abbrev pub Fit : Tuple → Type 0
  Fit = (tuple (current copies)).fits

  -- a grant leaves a tuple that fits, with what its operation sets
  abbrev GrantFit : Grant → Type 0
  GrantFit g = Fit g.tuple × Sets g.op g.tuple

  -- CHANGES

  after_fit : (t u : Tuple) (op : Op) → Fit t → Fit u → Sets op u → Fit (after t op)
  unfolding tuple long
  after_fit t u Get fit gives sets = fit
  after_fit t u (PutData version value) fit gives sets = ((subst (λ (n : ℕ). n < 2 ^ 64) sets.0 gives.0.0, (subst (λ (v : Datum). (datum current_format).fits v) sets.1 gives.0.1.0, fit.0.1.1)), fit.1)
  after_fit t u (PutConfig generation c) fit gives sets = ((fit.0.0, (fit.0.1.0, (subst (λ (n : ℕ). n < 2 ^ 64) sets.0 gives.0.1.1.0, subst (config (current copies)).fits sets.1 gives.0.1.1.1))), fit.1)

  changed_fit : (keep : Grant → Bool) (t : Tuple) (given : List Grant) → Fit t → All GrantFit given → Fit (changed_by t (filter keep given))
  changed_fit keep t [] fit all = fit
  changed_fit keep t (g ∷ given) fit all =
      let here = All-head GrantFit g given all in
      let rest = All-tail GrantFit g given all in
      by (keep g) (changed_fit keep (after t g.op) given (after_fit t g.tuple g.op fit here.0 here.1) rest) (changed_fit keep t given fit rest)
    where
      by : (b : Bool) → Fit (changed_by (after t g.op) (filter keep given)) → Fit (changed_by t (filter keep given)) → Fit (changed_by t (if b then g ∷ filter keep given else filter keep given))
      by true with_it without = with_it
      by false with_it without = without

  -- so does a row of so many tuples
  row_fit : (tops : List Logged) (records : ℕ) (tuples : List Tuple) (given : List Grant) → length tuples ≡ records → All Fit tuples → All GrantFit given
      → All Fit (map (λ rec. restored_tuple tops rec (from_row tuples rec) given) (range_with_len 0 records))
  row_fit tops records tuples given size fit all =
      let step : ℕ → Tuple = λ rec. restored_tuple tops rec (from_row tuples rec) given in
      All-from_get_or Fit (map step (range_with_len 0 records)) no_tuple (λ k lt.
      let within : k < records = omega (arith, lt, length-map-range_with_len step 0 records) in
      subst Fit (sym (get_or-map-range_with_len step 0 records k k no_tuple within (omega arith)))
      (changed_fit (is_kept_at tops k) (from_row tuples k) given (fit k no_tuple (omega (arith, within, size))) all))

  -- GRANTS

  module _ (format : ℕ) where
    abbrev form : Form Grant
    form = body.grant (layout copies format)

    grant_fit : (g : Grant) → form.fits g → GrantFit g
    unfolding body.grant body.granted
    grant_fit g fits = (tuple_renewed copies format g.tuple fits.0.1.1.1, fits.1)

    read_fit : (bodies : List (List ℕ)) → All Bytes bodies → All GrantFit (readings form bodies)
    read_fit [] bytes = All-nil GrantFit
    read_fit (b ∷ bodies) bytes = by (all_of form b) refl (read_fit bodies (All-tail Bytes b bodies bytes))
      where
        by : (o : Option Grant) → all_of form b ≡ o → All GrantFit (readings form bodies) → All GrantFit (readings form (b ∷ bodies))
        by None read rest = subst (λ (x : Option Grant). All GrantFit (cons_option x (readings form bodies))) (sym read) rest
        by (Some g) read rest = subst (λ (x : Option Grant). All GrantFit (cons_option x (readings form bodies))) (sym read)
            (All-cons GrantFit g (readings form bodies) (grant_fit g (all_takes form (exact_grant (layout copies format)) b g (are_bytes b (All-head Bytes b bodies bytes)) read).1) rest)

-- THE START

module _ (table : Table) where
  -- as many tuples as there are records, each of which fits
  abbrev AreFit : List Tuple → Type 0
  AreFit tuples = (length tuples ≡ length table.records) × All (Fit table.copies) tuples

  firsts_fit : (rows : List Row) → All (body.row (current table.copies)).fits rows → All (Fit table.copies) (map first_tuple rows)
  unfolding body.row tuple long
  firsts_fit [] fits = All-nil (Fit table.copies)
  firsts_fit (r ∷ rows) fits =
      let here = All-head (body.row (current table.copies)).fits r rows fits in
      All-cons (Fit table.copies) (first_tuple r) (map first_tuple rows) (((omega arith, (here.0.1.0, (omega arith, here.0.1.1))), tt)) (firsts_fit rows (All-tail (body.row (current table.copies)).fits r rows fits))

  table_fit : (body.table current_format).fits table → AreFit (map first_tuple table.records)
  unfolding body.table
  table_fit proper = (length-map table.records first_tuple, firsts_fit table.records proper.0.0.1.0.1.1)

  base_fit : (format : ℕ) (b : BaseRecord) → (body.base (layout table.copies format) (length table.records)).fits b → AreFit b.tuples
  unfolding body.base body.folded
  base_fit format b fits = (fits.0.1.1.0, λ k d lt. tuple_renewed table.copies format _ (fits.0.1.1.1 k d lt))

  module _ (disk : ℕ) (proper : (body.table current_format).fits table) where
    begin_fit : (found : List (List ℕ)) → AreBytes found → AreMadeFor disk table found → AreFit (tuples_of_base table (base_in copy_base found))
    begin_fit [] bytes made = table_fit proper
    begin_fit (first ∷ []) bytes made = table_fit proper
    begin_fit (first ∷ second ∷ rest) bytes made =
        subst (λ (o : Option Made). AreFit (tuples_of_base table (option_and_then (λ (m : Made). all_of (copy_base m) second) o))) (sym made.1)
        (by (all_of (copy_base (made_in made.0 disk table)) second) refl)
      where
        by : (o : Option BaseRecord) → all_of (copy_base (made_in made.0 disk table)) second ≡ o → AreFit (tuples_of_base table o)
        by None read = table_fit proper
        by (Some b) read = base_fit made.0 b (all_takes (copy_base (made_in made.0 disk table)) (exact_base (layout table.copies made.0) (length table.records)) second b
            (are_bytes second (All-head Bytes second rest (All-tail Bytes first (second ∷ rest) bytes))) read).1

    -- what a copy's bodies restore by any tops has a tuple for each record, and fits
    pub restored_fit : (tops : List Logged) (found : List (List ℕ)) → AreBytes found → AreMadeFor disk table found → All (Fit table.copies) (restored_in tops table found)
    restored_fit tops found bytes made =
        let begin = begin_fit found bytes made in
        row_fit table.copies tops (length table.records) (tuples_of_base table (base_in copy_base found)) (granted_in table found) begin.0 begin.1 (read_fit table.copies (format_in found) found bytes)

  pub restored_size : (tops : List Logged) (found : List (List ℕ)) → length (restored_in tops table found) ≡ length table.records
  restored_size tops found =
      length-map-range_with_len (λ rec. restored_tuple tops rec (from_row (tuples_of_base table (base_in copy_base found)) rec) (granted_in table found)) 0 (length table.records)
