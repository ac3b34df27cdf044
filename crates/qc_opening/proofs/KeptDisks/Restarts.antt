-- What the next mounting over a store's images starts from: what they restore, and where no grant stands on them the start
-- tuples of the table.
use Rattle.std.proofs.Common.{◌≡◌, ℕ, zero, suc, ◌+◌, ◌<◌, inl, inr, ◌⊎◌, List, [], ◌++◌, length, get_or, refl, sym, ap, ap₂, ◌∙◌, subst, arith, append-nil}
use Rattle.std.specs.Prelude.{map, Option, None, Some, IfSome, IsSome}
use Rattle.std.proofs.lemmas.Bool.{cases_lt}
use Rattle.std.proofs.lemmas.List.{get_or-replicate, length-map, length-replicate}
use Rattle.std.proofs.lemmas.List.FromFn.{get_or-map-range_with_len}
use Rattle.qc_config.specs.declared.tuple.Tuple.{Tuple}
use Rattle.qc_event.specs.declared.event.Grant.{Grant}
use Rattle.qc_event.specs.declared.table.Row.{Row}
use Rattle.qc_event.specs.declared.table.Table.{Table}
use Rattle.qc_event.specs.Base.{start_tuple}
use Rattle.qc_event.specs.History.{limit}
use Rattle.qc_event.specs.Tables.{base_of, first_tuple}
use Rattle.qc_codec.specs.Base.{base_in, copy_base, tuples_of_base}
use Rattle.qc_codec.specs.Copy.{granted_in}
use Rattle.qc_codec.specs.Restored.{restored_row}
use Rattle.qc_codec.specs.declared.past.Logged.{Logged}
use Rattle.qc_codec.specs.declared.past.Past.{Past as Logs}
use Rattle.qc_desk.specs.Held.{from_row}
use Rattle.qc_journal.proofs.Readings.{records-same}
use Rattle.qc_journal.specs.Image.{HasRecords}
use Rattle.qc_refine.specs.Images.{IsCopyImage}
use Rattle.qc_refine.specs.Folded.{begins}
use Rattle.qc_refine.specs.Restored.{granted_at, restored}
use Rattle.qc_refine.proofs.Restoring.Actives.{ActivesRestore, first_told, kept_told}
use Rattle.qc_refine.proofs.Restoring.ImageReadings.{copy_tells, copy_told}
use Rattle.qc_refine.proofs.Restoring.PairImages.{HasSome, none_past}
use Rattle.qc_refine.proofs.Restoring.RestoredBases.{nothing_restored}
use Rattle.qc_site.specs.Image.{AreMountableAsCopy, to_write}
use Rattle.qc_opening.specs.Mountings.{HaveNoGrantsOn, MountedOn}
use Rattle.qc_opening.proofs.KeptDisks.CutOff.{same_base, same_grants}
use Rattle.qc_opening.proofs.KeptDisks.Stands.{first_at, first_many, rows_restored}

-- what a mounting writes on a copy's disk tells no grant, nor with what it begins
written_same : (table : Table) (disk : ℕ) (found : List (List ℕ)) → granted_in table (found ++ to_write disk table found) ≡ granted_in table found
written_same table disk found = same_grants disk table found (to_write disk table found) [] (sym (append-nil (to_write disk table found)))

written_begin : (table : Table) (disk : ℕ) (found : List (List ℕ)) → tuples_of_base table (base_in copy_base (found ++ to_write disk table found)) ≡ tuples_of_base table (base_in copy_base found)
written_begin table disk found = ap (tuples_of_base table) (same_base disk table found (to_write disk table found) [] (sym (append-nil (to_write disk table found))))

-- THE NEXT MOUNTING

module _ (disk : ℕ → ℕ) (table : Table) (images : List (List ℕ)) (records : ℕ → List (List ℕ)) (epoch : ℕ) (base : List (List Tuple))
    (m : MountedOn disk table (λ number. Some (get_or images number [])) records epoch base) (as_many : length images ≡ table.copies + 1) where
  -- each image has records
  read : (number : ℕ) → HasSome images number
  read zero = (m.ledger.found, m.ledger.fine.0)
  read (suc copy) = elim (cases_lt copy table.copies) [
    | inl there ↦ subst (HasSome images) (omega arith) ((m.copies copy there).found, (m.copies copy there).fine.0)
    | inr past_all ↦ none_past images (suc copy) (omega (arith, as_many, past_all))
  ]

  abbrev bodies : ℕ → List (List ℕ)
  bodies number = (read number).0

  found_read : (copy : ℕ) (there : copy < table.copies) → (m.copies copy there).found ≡ bodies (copy + 1)
  found_read copy there = records-same (get_or images (copy + 1) []) (read (copy + 1)).0 (m.copies copy there).found (read (copy + 1)).1 (m.copies copy there).fine.0

  grants_read : (copy : ℕ) → copy < table.copies → granted_in table (records (copy + 1)) ≡ granted_at (kept_told table bodies) copy
  grants_read copy there =
      ap (granted_in table) (m.copies copy there).all
      ∙ written_same table (disk (copy + 1)) (m.copies copy there).found
      ∙ ap (granted_in table) (found_read copy there)
      ∙ sym (get_or-map-range_with_len (λ c. granted_in table ((read (c + 1)).0)) 0 table.copies copy copy [] there (omega arith))

  begin_read : (copy : ℕ) → copy < table.copies → tuples_of_base table (base_in copy_base (records (copy + 1))) ≡ begins (first_told table bodies) copy
  begin_read copy there =
      ap (λ bs. tuples_of_base table (base_in copy_base bs)) (m.copies copy there).all
      ∙ written_begin table (disk (copy + 1)) (m.copies copy there).found
      ∙ ap (λ bs. tuples_of_base table (base_in copy_base bs)) (found_read copy there)
      ∙ sym (first_at table bodies copy there)

  tops_read : m.past.tops ≡ (kept_told table bodies).tops
  unfolding read
  tops_read = ap (λ (p : Logs). p.tops) m.ledger.past_is

  -- what the copies start with is what the images restore
  pub restores : ActivesRestore table images base
  restores = record {
    bodies = bodies;
    has = λ number. (read number).1;
    same = rows_restored table base (first_told table bodies) (kept_told table bodies) m.as_many (first_many table bodies) (λ copy there.
        m.starts copy there
        ∙ ap (λ (row : List Tuple). restored_row m.past.tops (length table.records) (from_row row) (granted_in table (records (copy + 1)))) (begin_read copy there)
        ∙ ap₂ (λ (tops : List Logged) (gs : List Grant). restored_row tops (length table.records) (start_tuple (first_told table bodies) copy) gs) tops_read (grants_read copy there));
  }

-- THE FIRST MOUNTING

module _ (disk : ℕ → ℕ) (table : Table) (told : ℕ → Option (List ℕ)) (records : ℕ → List (List ℕ)) (epoch : ℕ) (base : List (List Tuple)) (m : MountedOn disk table told records epoch base) (none : HaveNoGrantsOn disk table told) where
  -- bodies tell no grant, and that the copy begins with the table's tuples
  abbrev TellNone : List (List ℕ) → Type 0
  TellNone bodies = (granted_in table bodies ≡ []) × (tuples_of_base table (base_in copy_base bodies) ≡ map first_tuple table.records)

  no_grants : (number : ℕ) (past : Logs) (limit : ℕ) (found : List (List ℕ)) (o : Option (List ℕ)) → IsSome o → IfSome o (λ image. HasRecords [] image ⊎ IsCopyImage table (map first_tuple table.records) [] number image)
      → IfSome o (λ bytes. HasRecords found bytes × AreMountableAsCopy number table past limit found) → TellNone found
  no_grants number past limit found None some fresh fine = absurd cc
  no_grants number past limit found (Some image) some (inl empty) fine = subst TellNone (sym (records-same image [] found empty fine.0)) (refl, refl)
  no_grants number past limit found (Some image) some (inr fresh) fine = copy_told table (map first_tuple table.records) [] number found (copy_tells table image found fine.0 number (map first_tuple table.records) [] fresh)

  none_told : (copy : ℕ) → copy < table.copies → TellNone (records (copy + 1))
  none_told copy there =
      let c = m.copies copy there in
      let none_found = no_grants (disk (copy + 1)) m.past (m.limit (copy + 1)) c.found (told (copy + 1)) (none copy there).0 (none copy there).1 c.fine in
      subst TellNone (sym c.all) (written_same table (disk (copy + 1)) c.found ∙ none_found.0, written_begin table (disk (copy + 1)) c.found ∙ none_found.1)

  -- where no grant stands, the copies start with the table's start tuples
  pub first_start : base ≡ base_of table
  first_start =
      rows_restored table base (base_of table) (record { tops = m.past.tops; granted = [] }) m.as_many (length-replicate table.copies (map first_tuple table.records)) (λ copy there.
      m.starts copy there
      ∙ ap₂ (λ (row : List Tuple) (gs : List Grant). restored_row m.past.tops (length table.records) (from_row row) gs)
      ((none_told copy there).1 ∙ sym (get_or-replicate table.copies copy (map first_tuple table.records) [] there)) (none_told copy there).0)
      ∙ ap (λ n. restored (base_of table) n (record { tops = []; granted = [] })) (sym (length-map table.records (λ (r : Row). r.config)))
      ∙ nothing_restored table
