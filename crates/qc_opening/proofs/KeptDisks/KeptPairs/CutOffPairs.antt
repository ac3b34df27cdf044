-- A mounting of pairs that is cut off leaves images that restore what those before it do.
use Rattle.std.proofs.Common.{◌≡◌, ℕ, ◌+◌, ◌<◌, inl, inr, ◌⊎◌, Bool, true, false, List, [], ◌∷◌, ◌++◌, length, get_or, sym, ap, ap₂, ◌∙◌, subst, arith, append-nil}
use Rattle.std.specs.Prelude.{if◌then◌else◌, map, nat_lt, Option}
use Rattle.std.specs.List.{filter_map, range_with_len}
use Rattle.std.proofs.lemmas.List.FromFn.{fill_by_all, get_or-map-range_with_len, length-map-range_with_len}
use Rattle.qc_codec.specs.Base.{active, base_in, copy_base, is_swapped, ledger_base, number_of_base, tuples_of_base}
use Rattle.qc_codec.specs.Bodies as body
use Rattle.qc_codec.specs.Copy.{granted_in}
use Rattle.qc_codec.specs.Form.{Form}
use Rattle.qc_codec.specs.Ledger.{logged_in, past_in, readings}
use Rattle.qc_codec.specs.Restored.{restored_row}
use Rattle.qc_codec.specs.declared.past.Logged.{Logged}
use Rattle.qc_codec.specs.declared.past.Past.{Past}
use Rattle.qc_codec.specs.declared.record.BaseRecord.{BaseRecord}
use Rattle.qc_codec.specs.declared.record.Made.{Made}
use Rattle.qc_config.specs.declared.tuple.Tuple.{Tuple}
use Rattle.qc_desk.specs.Held.{from_row}
use Rattle.qc_event.specs.Base.{start_tuple}
use Rattle.qc_event.specs.declared.event.Grant.{Grant}
use Rattle.qc_event.specs.declared.table.Table.{Table}
use Rattle.qc_journal.proofs.Readings.{records-same}
use Rattle.qc_journal.specs.Image.{HasRecords}
use Rattle.qc_ledger.specs.Image as tops_of
use Rattle.qc_opening.specs.Pairs.{AreCutOffInPairs, AreLeftInPairs, IsFoldCutOff, IsPairCutOff}
use Rattle.qc_opening.proofs.KeptDisks.CutOff.{same_base, same_grants, same_tops}
use Rattle.qc_opening.proofs.KeptDisks.KeptPairs.FoldCutOff.{fold_restores}
use Rattle.qc_opening.proofs.KeptDisks.KeptPairs.WrittenBodies.{same_ledger_base}
use Rattle.qc_pair.specs.Pair.{number_at}
use Rattle.qc_refine.specs.Pairs.{RestoreInPairs, TellsCopy, TellsLedger, TellsPair, copy_bodies, first_in, image_of, kept_in_pairs, ledger_bodies, spare_image}
use Rattle.qc_refine.specs.Restored.{granted_at, restored}
use Rattle.qc_refine.proofs.Restoring.PairImages.{HasSome, each_has, some_told, tells_read}
use Rattle.qc_site.specs.Image as grants
use Rattle.qc_site.specs.Renewal.{restored_in}

-- ONE PAIR

module _ (written : ℕ → List (List ℕ) → List (List ℕ)) where
  -- what is told of bodies is told of them with some first ones of those that a mounting writes behind
  abbrev Keeps : {A : Type 0} → (List (List ℕ) → A) → Type 0
  Keeps tell = (number : ℕ) (found first rest : List (List ℕ)) → written number found ≡ first ++ rest → tell (found ++ first) ≡ tell found

  module _ {A : Type 0} (tell : List (List ℕ) → A) (keeps : Keeps tell) where
    nothing : (found first rest : List (List ℕ)) → [] ≡ first ++ rest → tell (found ++ first) ≡ tell found
    nothing found [] rest split = ap tell (append-nil found)
    nothing found (b ∷ first) rest split = absurd cc

    -- so it is on the disk and on its spare, of which one is written
    own_same : (is_spare : Bool) (number : ℕ) (found first rest : List (List ℕ)) → (if is_spare then [] else written number found) ≡ first ++ rest → tell (found ++ first) ≡ tell found
    own_same true number found first rest split = nothing found first rest split
    own_same false number found first rest split = keeps number found first rest split

    spare_same : (is_spare : Bool) (number : ℕ) (found first rest : List (List ℕ)) → (if is_spare then written number found else []) ≡ first ++ rest → tell (found ++ first) ≡ tell found
    spare_same true number found first rest split = keeps number found first rest split
    spare_same false number found first rest split = nothing found first rest split

  module _ (form : Made → Form BaseRecord) (keeps_base : Keeps (base_in form)) (pair : ℕ) (image image' later later' : List ℕ) (cut : IsPairCutOff form pair written image image' later later')
      (own_bodies spare_bodies : List (List ℕ)) (has : HasRecords own_bodies image) (has_spare : HasRecords spare_bodies image') where
    abbrev own_now : List (List ℕ)
    own_now = cut.own.found ++ cut.own.has.first

    abbrev spare_now : List (List ℕ)
    spare_now = cut.spare.found ++ cut.spare.has.first

    own_told : {A : Type 0} (tell : List (List ℕ) → A) → Keeps tell → tell own_now ≡ tell own_bodies
    own_told tell keeps =
        own_same tell keeps cut.is_spare (number_at false pair) cut.own.found cut.own.has.first cut.own.has.rest cut.own.has.split
        ∙ ap tell (records-same image own_bodies cut.own.found has cut.own.had)

    spare_told : {A : Type 0} (tell : List (List ℕ) → A) → Keeps tell → tell spare_now ≡ tell spare_bodies
    spare_told tell keeps =
        spare_same tell keeps cut.is_spare (number_at true pair) cut.spare.found cut.spare.has.first cut.spare.has.rest cut.spare.has.split
        ∙ ap tell (records-same image' spare_bodies cut.spare.found has_spare cut.spare.had)

    -- the same disk is active
    still_swapped : is_swapped form own_now spare_now ≡ is_swapped form own_bodies spare_bodies
    still_swapped = ap₂ (λ (a b : Option BaseRecord). nat_lt (number_of_base a) (number_of_base b)) (own_told (base_in form) keeps_base) (spare_told (base_in form) keeps_base)

    -- the active bodies of what is left tell what those before them do
    told_alike : {A : Type 0} (tell : List (List ℕ) → A) → Keeps tell → TellsPair form pair (λ number bodies. tell bodies ≡ tell (active form own_bodies spare_bodies)) later later'
    told_alike tell keeps = record {
      own = own_now;
      spare = spare_now;
      has = cut.own.has.has;
      has_spare = cut.spare.has.has;
      tells = ap (λ (b : Bool). tell (if b then spare_now else own_now)) still_swapped ∙ picked (is_swapped form own_bodies spare_bodies);
    }
      where
        picked : (b : Bool) → tell (if b then spare_now else own_now) ≡ tell (if b then spare_bodies else own_bodies)
        picked true = spare_told tell keeps
        picked false = own_told tell keeps

-- ALL PAIRS

-- the tops that bodies tell
abbrev tops_in : List (List ℕ) → List Logged
tops_in bodies = filter_map logged_in (readings body.ledger bodies)

-- what bodies restore, by copies
module _ (table : Table) (bodies : ℕ → List (List ℕ)) where
  abbrev tops : List Logged
  tops = tops_in (ledger_bodies table bodies)

  abbrev row_of : ℕ → List Tuple
  row_of copy = restored_in tops table (copy_bodies table bodies copy)

  by_copies : restored (first_in table bodies) (length table.records) (kept_in_pairs table bodies) ≡ map row_of (range_with_len 0 table.copies)
  by_copies =
      let begin : ℕ → List Tuple = λ copy. tuples_of_base table (base_in copy_base (copy_bodies table bodies copy)) in
      let given : ℕ → List Grant = λ copy. granted_in table (copy_bodies table bodies copy) in
      let many = length-map-range_with_len begin 0 table.copies in
      let step : ℕ → List Tuple = λ copy. restored_row tops (length table.records) (start_tuple (first_in table bodies) copy) (granted_at (kept_in_pairs table bodies) copy) in
      fill_by_all row_of _ table.copies [] (length-map-range_with_len step 0 (length (first_in table bodies)) ∙ many)
      (λ copy there.
      get_or-map-range_with_len step 0 (length (first_in table bodies)) copy copy [] (omega (arith, there, many)) (omega arith)
      ∙ ap₂ (λ (row : List Tuple) (gs : List Grant). restored_row tops (length table.records) (from_row row) gs)
      (get_or-map-range_with_len begin 0 table.copies copy copy [] there (omega arith))
      (get_or-map-range_with_len given 0 table.copies copy copy [] there (omega arith)))

module _ (table : Table) (images later : List (List ℕ)) (cut : AreCutOffInPairs table images later) (tuples : List (List Tuple)) (r : RestoreInPairs table images tuples) where
  abbrev had : List Logged
  had = tops table r.bodies

  ledger_alike : TellsLedger table later (λ number bodies. tops_in bodies ≡ had)
  ledger_alike =
      told_alike (λ number. tops_of.to_write number table) ledger_base (λ number. same_ledger_base number table) 0
      (image_of table images 0) (spare_image table images 0) (image_of table later 0) (spare_image table later 0) cut.ledger
      (r.bodies 0) (r.bodies (table.copies + 1 + 0)) (r.has 0) (r.has (table.copies + 1 + 0)) tops_in (λ number. same_tops number table)

  -- the past behind which it was cut off has the same tops
  same_past : tops_in (active ledger_base cut.ledger.own.found cut.ledger.spare.found) ≡ had
  same_past = ap₂ (λ (a b : List (List ℕ)). tops_in (active ledger_base a b))
      (records-same (image_of table images 0) (r.bodies 0) cut.ledger.own.found (r.has 0) cut.ledger.own.had)
      (records-same (spare_image table images 0) (r.bodies (table.copies + 1 + 0)) cut.ledger.spare.found (r.has (table.copies + 1 + 0)) cut.ledger.spare.had)

  copy_alike : (copy : ℕ) → copy < table.copies → TellsCopy table later copy (λ number bodies. restored_in had table bodies ≡ row_of table r.bodies copy)
  copy_alike copy there = by (cut.copies copy there)
    where
      image : List ℕ
      image = image_of table images (copy + 1)

      image' : List ℕ
      image' = spare_image table images (copy + 1)

      next : List ℕ
      next = image_of table later (copy + 1)

      next' : List ℕ
      next' = spare_image table later (copy + 1)

      past : Past
      past = past_in (active ledger_base cut.ledger.own.found cut.ledger.spare.found)

      own_has : HasRecords (r.bodies (copy + 1)) image
      own_has = r.has (copy + 1)

      spare_has : HasRecords (r.bodies (table.copies + 1 + (copy + 1))) image'
      spare_has = r.has (table.copies + 1 + (copy + 1))

      -- a fold was cut off
      amid : IsFoldCutOff table past copy image image' next next' → TellsCopy table later copy (λ number bodies. restored_in had table bodies ≡ row_of table r.bodies copy)
      amid fold =
          let found_is : fold.found ≡ copy_bodies table r.bodies copy =
          fold.have.are_active ∙ ap₂ (active copy_base) (records-same image (r.bodies (copy + 1)) fold.have.own own_has fold.have.has_own) (records-same image' (r.bodies (table.copies + 1 + (copy + 1))) fold.have.spare spare_has fold.have.has_spare) in
          subst (λ (ts : List Logged). TellsCopy table later copy (λ number bodies. restored_in ts table bodies ≡ restored_in ts table (copy_bodies table r.bodies copy))) same_past
          (subst (λ (f : List (List ℕ)). TellsCopy table later copy (λ number bodies. restored_in past.tops table bodies ≡ restored_in past.tops table f)) found_is
          (fold_restores table past copy image image' next next' fold))

      by : IsPairCutOff copy_base (copy + 1) (λ number. grants.to_write number table) image image' next next' ⊎ IsFoldCutOff table past copy image image' next next'
          → TellsCopy table later copy (λ number bodies. restored_in had table bodies ≡ row_of table r.bodies copy)
      by (inl written) =
          told_alike (λ number. grants.to_write number table) copy_base (λ number. same_base number table) (copy + 1) image image' next next' written
          (r.bodies (copy + 1)) (r.bodies (table.copies + 1 + (copy + 1))) own_has spare_has (restored_in had table)
          (λ number found first rest split. ap₂ (λ (gs : List Grant) (base : Option BaseRecord). restored_row had (length table.records) (from_row (tuples_of_base table base)) gs)
          (same_grants number table found first rest split) (same_base number table found first rest split))
      by (inr fold) = amid fold

  read : (place : ℕ) → HasSome later place
  read = each_has table later cut.as_many (some_told _ ledger_alike) (λ copy there. some_told _ (copy_alike copy there))

  abbrev bodies : ℕ → List (List ℕ)
  bodies place = (read place).0

  ledger_told : tops table bodies ≡ had
  ledger_told = tells_read _ _ _ _ _ (bodies 0) (bodies (table.copies + 1 + 0)) ledger_alike (read 0).1 (read (table.copies + 1 + 0)).1

  row_same : (copy : ℕ) → copy < table.copies → row_of table bodies copy ≡ row_of table r.bodies copy
  row_same copy there =
      ap (λ (ts : List Logged). restored_in ts table (copy_bodies table bodies copy)) ledger_told
      ∙ tells_read _ _ _ _ _ (bodies (copy + 1)) (bodies (table.copies + 1 + (copy + 1))) (copy_alike copy there) (read (copy + 1)).1 (read (table.copies + 1 + (copy + 1))).1

  -- what is restored is the same
  pub still_restored : RestoreInPairs table later tuples
  still_restored = record {
    bodies = bodies;
    has = λ place. (read place).1;
    same =
        r.same
        ∙ by_copies table r.bodies
        ∙ fill_by_all (row_of table bodies) _ table.copies [] (length-map-range_with_len (row_of table r.bodies) 0 table.copies)
        (λ copy there. get_or-map-range_with_len (row_of table r.bodies) 0 table.copies copy copy [] there (omega arith) ∙ sym (row_same copy there))
        ∙ sym (by_copies table bodies);
  }

-- so it is after any number of them
module _ (table : Table) where
  pub left_restored : (images last : List (List ℕ)) (later : List (List (List ℕ))) → AreLeftInPairs table images later last → (tuples : List (List Tuple)) → RestoreInPairs table images tuples → RestoreInPairs table last tuples
  left_restored images last [] left tuples r = subst (λ is. RestoreInPairs table is tuples) (sym left) r
  left_restored images last (next ∷ later) left tuples r = left_restored next last later left.1 tuples (still_restored table images next left.0 tuples r)

  pub left_many : (images last : List (List ℕ)) (later : List (List (List ℕ))) → length images ≡ table.copies + 1 + (table.copies + 1) → AreLeftInPairs table images later last → length last ≡ table.copies + 1 + (table.copies + 1)
  left_many images last [] many left = ap length left ∙ many
  left_many images last (next ∷ later) many left = left_many next last later left.0.as_many left.1
