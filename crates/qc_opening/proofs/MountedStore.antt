-- A store that was mounted, as the pairs of disks that were found.
use Rattle.std.proofs.Common.{◌≡◌, ℕ, zero, suc, ◌+◌, ◌<◌, ◌≤◌, ◌^◌, List, [], ◌∷◌, ◌++◌, length, map, get_or, refl, sym, ap, ◌∙◌, subst, arith}
use Rattle.std.specs.Prelude.{All, Bool, true, false, if◌then◌else◌, not, Option, None, Some, IfSome, is_some, slice_get, slice_index_or}
use Rattle.std.proofs.lemmas.List.{length-map}
use Rattle.std.proofs.lemmas.Option.{slice_get_within}
use Rattle.qc_config.specs.declared.tuple.Tuple.{Tuple}
use Rattle.qc_disk.specs.Disk.{DiskView, IsImage}
use Rattle.qc_disk.specs.declared.disk.Disk.{Ghosts}
use Rattle.qc_codec.specs.Base.{base_in, copy_base, tuples_of_base}
use Rattle.qc_codec.specs.Bodies as body
use Rattle.qc_codec.specs.Copy.{granted_in}
use Rattle.qc_codec.specs.Ledger.{made_for}
use Rattle.qc_codec.specs.Restored.{restored_row}
use Rattle.qc_codec.specs.declared.past.Past.{Past}
use Rattle.qc_codec.proofs.Bases.{made_spelled}
use Rattle.qc_codec.specs.Fields.{current_format}
use Rattle.qc_event.specs.declared.table.Table.{Table}
use Rattle.qc_event.specs.History.{Past as Entries}
use Rattle.qc_event.specs.Tables.{setting_of}
use Rattle.qc_desk.specs.Held.{from_row}
use Rattle.qc_journal.specs.Image.{HasRecords}
use Rattle.qc_journal.specs.Journal.{disk_of}
use Rattle.qc_journal.specs.declared.journal.Journal.{Journal}
use Rattle.qc_ledger.specs.Image.{AreMountableAsLedger}
use Rattle.qc_ledger.specs.Mounted as book
use Rattle.qc_ledger.proofs.Logging.{up_by}
use Rattle.qc_opening.specs.Disks.{told_by}
use Rattle.qc_opening.specs.Mounted.{IsCopy}
use Rattle.qc_opening.specs.Mountings.{MountedOn}
use Rattle.qc_site.specs.Image.{AreBytes}
use Rattle.qc_opening.specs.Pairs.{active_number, made_other, of_active, of_other, AreNumbers, MountedInPairs}
use Rattle.qc_opening.specs.Parts.{counted_by, IsStoreOver}
use Rattle.qc_opening.specs.SinceFolds.{TellSinceFolds}
use Rattle.qc_opening.specs.declared.parts.Parts.{Parts}
use Rattle.qc_opening.specs.Stored.{WasMounted}
use Rattle.qc_opening.proofs.CopiesNow.{copies_now, copies_now_many, copy_now, tells_as, Both, IsCopyNow}
use Rattle.qc_opening.proofs.Found.{active_found, active_found_so, active_given, active_later_so, active_told_is, active_was_so, bodies_found, bodies_shown, epoch_found, found_of, limit_found, numbers_found, other_found, other_found_so, other_given, other_later_so, other_was_so, shown_read, swapped_found, IsPairAt}
use Rattle.qc_opening.proofs.KeptOtherwise.{findings, keep_otherwise}
use Rattle.qc_opening.proofs.ShownNow.{active_back, active_still, other_back, other_still}
use Rattle.qc_opening.proofs.Mountings.Disks.{mounted_later}
use Rattle.qc_opening.proofs.Mountings.Numbered.{pairs_length}
use Rattle.qc_opening.proofs.Mountings.Row.{own_at, spare_at}
use Rattle.qc_opening.proofs.ReadBodies.{bodies_told}
use Rattle.qc_opening.proofs.Places.{all_at, at_place, get_next, mapped_at}
use Rattle.qc_pair.specs.Fold as fold
use Rattle.qc_pair.specs.Fold.{epoch_in, other_in, swapped_in}
use Rattle.qc_pair.specs.Opening.{HaveActive}
use Rattle.qc_pair.specs.Pair.{number_at}
use Rattle.qc_pair.specs.declared.fold.Fold.{Fold}
use Rattle.qc_pair.specs.declared.kind.Kind.{Kind}
use Rattle.qc_pair.specs.declared.kind.Kind.TheVariants as kind
use Rattle.qc_site.specs.Image.{to_write, AreGranted, AreMountableAsCopy}
use Rattle.qc_site.specs.Mounted as copy
use Rattle.qc_site.specs.Start.{start_of}
use Rattle.qc_system.specs.Closing.{AllKeep}
use Rattle.qc_system.specs.Pairs.{own_then_spares}
use Rattle.qc_system.specs.Parts.{AreMounted, Findings, IsLedger, IsMounted}
use Rattle.qc_system.specs.declared.parts.CopyPair.{CopyPair}

-- what was mounted of a copy is what was mounted of one with the same disk, which told the same
mounts_as : (disk disk' : ℕ) (table : Table) (past : Past) (limit format : ℕ) (told told' : Option (List ℕ)) (records records' : List (List ℕ)) → disk' ≡ disk → told' ≡ told → records' ≡ records → copy.MountsCopy disk table past limit format told records
    → copy.MountsCopy disk' table past limit format told' records'
mounts_as disk disk' table past limit format told told' records records' of_disk of_told of_records m = record {
  found = m.found;
  format_is = m.format_is;
  granted = subst (λ d. AreGranted d table past m.found) (sym of_disk) m.granted;
  fine = subst (λ o. IfSome o (λ bytes. HasRecords m.found bytes × AreMountableAsCopy disk' table past limit m.found)) (sym of_told)
      (subst (λ d. IfSome told (λ bytes. HasRecords m.found bytes × AreMountableAsCopy d table past limit m.found)) (sym of_disk) m.fine);
  all = of_records ∙ (m.all ∙ ap (λ d. m.found ++ to_write d table m.found) (sym of_disk));
}

-- of the pair the same is active
have_as : (form : Kind) (who : ℕ) (told told' spare_told spare_told' : Option (List ℕ)) (is_spare is_spare' : Bool) (found : List (List ℕ)) → told' ≡ told → spare_told' ≡ spare_told → is_spare' ≡ is_spare → HaveActive form who told spare_told is_spare found
    → HaveActive form who told' spare_told' is_spare' found
have_as form who told told' spare_told spare_told' is_spare is_spare' found of_told of_spare which have =
    subst (λ b. HaveActive form who told' spare_told' b found) (sym which)
    (subst (λ o. HaveActive form who told' o is_spare found) (sym of_spare) (subst (λ o. HaveActive form who o spare_told is_spare found) (sym of_told) have))

-- one of both has what it had
one_has : (told spare_told : Option (List ℕ)) (own spare : List (List ℕ)) (is_spare : Bool) → IfSome told (HasRecords own) → IfSome spare_told (HasRecords spare) → IfSome (if is_spare then told else spare_told) (HasRecords (if is_spare then own else spare))
one_has told spare_told own spare true has has_spare = has
one_has told spare_told own spare false has has_spare = has_spare

-- the copies from one on were mounted so, where each was
are_mounted : {D : Type 0} {g : Ghosts D} (base : List (List Tuple)) (found : Findings) (number : ℕ) (copies : List (CopyPair D g)) → ((i : ℕ) (m : CopyPair D g) → slice_get copies i ≡ Some m → IsMounted base found (number + i) m) → AreMounted base found number copies
are_mounted base found number [] each = tt
are_mounted base found number (m ∷ copies) each = (
  subst (λ n. IsMounted base found n m) (omega arith) (each 0 m refl),
  are_mounted base found (number + 1) copies (λ i x is. subst (λ n. IsMounted base found n x) (omega arith) (each (suc i) x is)),
)

-- what stands of a pair of disks in the rows of all
module _ {D A : Type 0} (f : D → A) (d : A) (row : List A) (pairs : List (D × D)) (is : map f (own_then_spares pairs) ≡ row) (place : ℕ) (disks : D × D) (there : slice_get pairs place ≡ Some disks) where
  row_own : get_or row place d ≡ f disks.0
  row_own = ap (λ (l : List A). get_or l place d) (sym is) ∙ own_at f d pairs place disks there

  row_spare : (many : ℕ) → many ≡ length pairs → get_or row (many + place) d ≡ f disks.1
  row_spare many size = ap (λ (l : List A). get_or l (many + place) d) (sym is) ∙ spare_at f d pairs place many (many + place) disks there (sym size) refl

module _ {D : Type 0} {g : Ghosts D} (table : Table) (told : List (Option (List ℕ))) (counts : List ℕ) (parts : Parts D g) (store : IsStoreOver table told counts parts) (all : length parts.copies.items ≡ table.copies) where
  abbrev items : List (CopyPair D g)
  items = parts.copies.items

  many_pairs : table.copies + 1 ≡ length store.pairs
  many_pairs = omega (arith, all, ap length store.mounted.pairs_are, pairs_length (IsCopy table parts.past parts.epoch store.limit) 0 store.mounted.copy_pairs items store.mounted.copies_are)

  -- THE LEDGER'S PAIR

  abbrev ledger_pair : D × D
  ledger_pair = store.mounted.ledger_pair

  ledger_there : slice_get store.pairs 0 ≡ Some ledger_pair
  ledger_there = ap (λ (l : List (D × D)). slice_get l 0) store.mounted.pairs_are

  ledger_told : told_by told 0 ≡ (g.view ledger_pair.0).content
  ledger_told = row_own (λ d. (g.view d).content) None told store.pairs store.contents 0 ledger_pair ledger_there

  ledger_spare_told : told_by told (table.copies + 1 + 0) ≡ (g.view ledger_pair.1).content
  ledger_spare_told = row_spare (λ d. (g.view d).content) None told store.pairs store.contents 0 ledger_pair ledger_there (table.copies + 1) many_pairs

  -- what the pairs tell since the folds, the ledger's what it told
  abbrev both_now : List Both
  both_now = ((g.view ledger_pair.0).content, (g.view ledger_pair.1).content) ∷ copies_now table parts.past parts.epoch store.limit 0 store.mounted.copy_pairs items store.mounted.copies_are

  many_now : table.copies + 1 ≡ length both_now
  many_now = omega (arith, all, copies_now_many table parts.past parts.epoch store.limit 0 store.mounted.copy_pairs items store.mounted.copies_are)

  -- and what the disks at all places tell
  abbrev pub now : List (Option (List ℕ))
  now = map (λ o. o) (own_then_spares both_now)

  pub ledger_at : IsPairAt table now parts.ledger items counts 0 parts.ledger.fold (book.journal_of parts.ledger.book) (book.records_of parts.ledger.book) ledger_pair ((g.view ledger_pair.0).content, (g.view ledger_pair.1).content)
  ledger_at =
      let l = store.mounted.ledger_is in
      record {
        own_told = row_own (λ o. o) None now both_now refl 0 _ refl;
        spare_told = row_spare (λ o. o) None now both_now refl 0 _ refl (table.copies + 1) many_now;
        own_counted = row_own (λ d. (g.view d).faults) 0 counts store.pairs store.counted 0 ledger_pair ledger_there;
        spare_counted = row_spare (λ d. (g.view d).faults) 0 counts store.pairs store.counted 0 ledger_pair ledger_there (table.copies + 1) many_pairs;
        own_later = l.left.own.cause.later;
        spare_later = l.left.spare.cause.later;
        bodies_are = refl;
        swapped_is = refl;
        active_is = refl;
        other_is = refl;
        up = up_by (book.journal_of parts.ledger.book).state parts.ledger.book.up;
        keeps = l.mounts.keeps;
        other_up = l.folds.up;
        others = if swapped_in parts.ledger.fold then l.mounts.opens.have.own else l.mounts.opens.have.spare;
        others_had = one_has (g.view ledger_pair.0).content (g.view ledger_pair.1).content l.mounts.opens.have.own l.mounts.opens.have.spare (swapped_in parts.ledger.fold) l.mounts.opens.have.has_own l.mounts.opens.have.has_spare;
        keeps_other = l.mounts.opens.keeps_other;
        number_is = refl;
        other_limit = l.folds.limit_is ∙ sym l.limit_is;
        made_is = l.folds.made_is ∙ made_spelled (made_for (number_at (not (swapped_in parts.ledger.fold)) 0) table);
        epoch_is = refl;
        copies_are = l.folds.copies_are;
      }

  -- THE COPIES' PAIRS

  -- What was mounted as a copy.
  pub record IsCopyAt (i : ℕ) (pair : CopyPair D g) : Type 0 where
    pub disks : D × D
    pub is_copy : IsCopy table parts.past parts.epoch store.limit i disks pair
    pub told_is : told_by told (i + 1) ≡ (g.view disks.0).content
    pub spare_told_is : told_by told (table.copies + 1 + (i + 1)) ≡ (g.view disks.1).content
    pub at : IsPairAt table now parts.ledger items counts (i + 1) pair.fold (copy.journal_of pair.copy) (copy.records_of pair.copy) disks (is_copy.mounts.now, is_copy.mounts.spare_now)
    pub start : get_or (map (λ p. start_of p.copy) items) i [] ≡ start_of pair.copy

  pub copy_at : (i : ℕ) (pair : CopyPair D g) → slice_get items i ≡ Some pair → IsCopyAt i pair
  copy_at i pair is =
      let (disks, there, tell, tells, has) = copy_now table parts.past parts.epoch store.limit 0 store.mounted.copy_pairs items store.mounted.copies_are i pair is in
      let (c, same) = subst (λ n. IsCopyNow table parts.past parts.epoch store.limit n disks tell pair) (omega arith) has in
      let next : suc i ≡ i + 1 = omega arith in
      let now_there : slice_get both_now (i + 1) ≡ Some tell = subst (λ n. slice_get both_now n ≡ Some tell) next tells in
      let row_there : slice_get store.pairs (i + 1) ≡ Some disks = ap (λ (l : List (D × D)). slice_get l (i + 1)) store.mounted.pairs_are ∙ subst (λ n. slice_get (ledger_pair ∷ store.mounted.copy_pairs) n ≡ Some disks) next there in
      record {
        disks = disks;
        is_copy = c;
        told_is = row_own (λ d. (g.view d).content) None told store.pairs store.contents (i + 1) disks row_there;
        spare_told_is = row_spare (λ d. (g.view d).content) None told store.pairs store.contents (i + 1) disks row_there (table.copies + 1) many_pairs;
        start = mapped_at (λ p. start_of p.copy) items i pair [] is;
        at = record {
          own_told = row_own (λ o. o) None now both_now refl (i + 1) tell now_there ∙ sym (ap (λ (b : Both). b.0) same);
          spare_told = row_spare (λ o. o) None now both_now refl (i + 1) tell now_there (table.copies + 1) many_now ∙ sym (ap (λ (b : Both). b.1) same);
          own_counted = row_own (λ d. (g.view d).faults) 0 counts store.pairs store.counted (i + 1) disks row_there;
          spare_counted = row_spare (λ d. (g.view d).faults) 0 counts store.pairs store.counted (i + 1) disks row_there (table.copies + 1) many_pairs;
          own_later = mounted_later g.view table _ (i + 1) _ _ _ _ _ _ c.left.own;
          spare_later = mounted_later g.view table _ (i + 1) _ _ _ _ _ _ c.left.spare;
          bodies_are = get_next (book.records_of parts.ledger.book) (map (λ p. copy.records_of p.copy) items) i [] ∙ mapped_at (λ p. copy.records_of p.copy) items i pair [] is;
          swapped_is = get_next (swapped_in parts.ledger.fold) (map (λ p. swapped_in p.fold) items) i false ∙ mapped_at (λ p. swapped_in p.fold) items i pair false is;
          active_is = get_next (disk_of (book.journal_of parts.ledger.book)) (map (λ p. disk_of (copy.journal_of p.copy)) items) i (disk_of (book.journal_of parts.ledger.book)) ∙ mapped_at (λ p. disk_of (copy.journal_of p.copy)) items i pair (disk_of (book.journal_of parts.ledger.book)) is;
          other_is = get_next (disk_of (other_in parts.ledger.fold)) (map (λ p. disk_of (other_in p.fold)) items) i (disk_of (other_in parts.ledger.fold)) ∙ mapped_at (λ p. disk_of (other_in p.fold)) items i pair (disk_of (other_in parts.ledger.fold)) is;
          up = c.up;
          keeps = c.mounts.finds.keeps;
          other_up = c.folds.up;
          others = if swapped_in pair.fold then c.mounts.finds.opens.have.own else c.mounts.finds.opens.have.spare;
          others_had = one_has c.mounts.now c.mounts.spare_now c.mounts.finds.opens.have.own c.mounts.finds.opens.have.spare (swapped_in pair.fold) c.mounts.finds.opens.have.has_own c.mounts.finds.opens.have.has_spare;
          keeps_other = c.mounts.finds.opens.keeps_other;
          number_is = get_next (fold.active_number parts.ledger.fold) (map (λ p. fold.active_number p.fold) items) i 0 ∙ mapped_at (λ p. fold.active_number p.fold) items i pair 0 is;
          other_limit = c.folds.limit_is ∙ sym store.mounted.ledger_is.limit_is;
          made_is = c.folds.made_is;
          epoch_is = c.folds.epoch_is ∙ sym store.mounted.ledger_is.folds.epoch_is;
          copies_are = c.folds.copies_are;
        };
      }

  -- there is one of each number
  pub some_copy : (i : ℕ) → i < table.copies → (pair : CopyPair D g) × (slice_get items i ≡ Some pair) × IsCopyAt i pair
  some_copy i there =
      let (pair, is) = at_place items i (omega (arith, there, all)) in
      (pair, is, copy_at i pair is)

  -- what holds of the ledger's pair and of each copy's holds of each
  pub each_pair : (P : ℕ → Type 0) → ((fold : Fold D g) (journal : Journal D g) (records : List (List ℕ)) (disks : D × D) (tells : Both) (pair : ℕ) → IsPairAt table now parts.ledger items counts pair fold journal records disks tells → P pair)
      → (pair : ℕ) → pair ≤ table.copies → P pair
  each_pair P has zero low = has parts.ledger.fold (book.journal_of parts.ledger.book) (book.records_of parts.ledger.book) ledger_pair _ 0 ledger_at
  each_pair P has (suc i) low =
      let (pair, is, at) = some_copy i (omega (arith, low)) in
      let next : i + 1 ≡ suc i = omega arith in
      subst P next (has pair.fold (copy.journal_of pair.copy) (copy.records_of pair.copy) at.disks _ (i + 1) at.at)

  -- THE DISKS AS THEY WERE MOUNTED

  pub active_was : (pair : ℕ) → pair ≤ table.copies → WasMounted g.view (active_found parts.ledger items pair) (bodies_found parts.ledger items pair) (of_active table (swapped_found parts.ledger items) (told_by now) pair)
  active_was = each_pair (λ pair. WasMounted g.view (active_found parts.ledger items pair) (bodies_found parts.ledger items pair) (of_active table (swapped_found parts.ledger items) (told_by now) pair))
      (λ fold journal records disks tells pair at. active_was_so table now parts.ledger items counts pair fold journal records disks tells at)

  pub other_was : (pair : ℕ) → pair ≤ table.copies → WasMounted g.view (other_found parts.ledger items pair) (bodies_told (of_other table (swapped_found parts.ledger items) (told_by now) pair)) (of_other table (swapped_found parts.ledger items) (told_by now) pair)
  other_was = each_pair (λ pair. WasMounted g.view (other_found parts.ledger items pair) (bodies_told (of_other table (swapped_found parts.ledger items) (told_by now) pair)) (of_other table (swapped_found parts.ledger items) (told_by now) pair))
      (λ fold journal records disks tells pair at. other_was_so table now parts.ledger items counts pair fold journal records disks tells at)

  pub active_later : (pair : ℕ) → pair ≤ table.copies → of_active table (swapped_found parts.ledger items) (counted_by counts) pair ≤ (g.view (active_found parts.ledger items pair)).faults
  active_later = each_pair (λ pair. of_active table (swapped_found parts.ledger items) (counted_by counts) pair ≤ (g.view (active_found parts.ledger items pair)).faults)
      (λ fold journal records disks tells pair at. active_later_so table now parts.ledger items counts pair fold journal records disks tells at)

  pub other_later : (pair : ℕ) → pair ≤ table.copies → of_other table (swapped_found parts.ledger items) (counted_by counts) pair ≤ (g.view (other_found parts.ledger items pair)).faults
  other_later = each_pair (λ pair. of_other table (swapped_found parts.ledger items) (counted_by counts) pair ≤ (g.view (other_found parts.ledger items pair)).faults)
      (λ fold journal records disks tells pair at. other_later_so table now parts.ledger items counts pair fold journal records disks tells at)

  -- what was told, and what the disks tell since the folds
  pub tell_since : TellSinceFolds table (told_by told) (told_by now)
  tell_since =
      let m = store.mounted.ledger_is.mounts in
      record {
        past = parts.past;
        tells = (
          swapped_in parts.ledger.fold,
          m.mounts.found,
          have_as kind.Ledger 0 (g.view ledger_pair.0).content (told_by told 0) (g.view ledger_pair.1).content (told_by told (table.copies + 1 + 0)) (swapped_in parts.ledger.fold) (swapped_in parts.ledger.fold) m.mounts.found ledger_told ledger_spare_told refl m.opens.have,
          m.mounts.past_is,
        );
        ledger = ledger_at.own_told ∙ sym ledger_told;
        ledger_spare = ledger_at.spare_told ∙ sym ledger_spare_told;
        copies = λ i there.
            let (pair, is, at) = some_copy i there in
            tells_as i table parts.past (g.view at.disks.0).content _ (g.view at.disks.1).content _ at.is_copy.mounts.now _ at.is_copy.mounts.spare_now _ at.told_is at.spare_told_is at.at.own_told at.at.spare_told at.is_copy.mounts.tells;
      }

  -- the bodies that the other disks show are those that are read of what they tell
  all_shown : ((disk : D) → IsImage (g.view disk).content (g.view disk).may_leave) → (pair : ℕ) → pair ≤ table.copies → is_some (of_other table (swapped_found parts.ledger items) (told_by now) pair) ≡ true
      → bodies_shown table told parts.ledger items pair ≡ bodies_told (of_other table (swapped_found parts.ledger items) (told_by now) pair)
  all_shown law = each_pair (λ pair. is_some (of_other table (swapped_found parts.ledger items) (told_by now) pair) ≡ true → bodies_shown table told parts.ledger items pair ≡ bodies_told (of_other table (swapped_found parts.ledger items) (told_by now) pair))
      (λ fold journal records disks tells pair at. shown_read table now parts.ledger items counts pair fold journal records disks tells at law)

  -- the epoch of the run is the mounting's
  pub epoch_is : epoch_in parts.ledger.fold ≡ parts.epoch
  epoch_is = store.mounted.ledger_is.folds.epoch_is

  -- THE SYSTEM

  -- an image of a disk is what it tells
  abbrev IsLawful : Type 0
  IsLawful = (disk : D) → IsImage (g.view disk).content (g.view disk).may_leave

  abbrev found : Findings
  found = found_of table told parts.ledger items

  pub ledger_found : IsLawful → (many : ℕ) → many ≡ table.copies → IsLedger many found parts.ledger
  ledger_found law many same = record {
    disk = active_found_so table now parts.ledger items counts 0 parts.ledger.fold (book.journal_of parts.ledger.book) (book.records_of parts.ledger.book) ledger_pair _ ledger_at told (active_still table (told_by told) (told_by now) tell_since (swapped_found parts.ledger items) 0 (omega arith));
    limit = refl;
    other = other_found_so table now parts.ledger items counts 0 parts.ledger.fold (book.journal_of parts.ledger.book) (book.records_of parts.ledger.book) ledger_pair _ ledger_at told (other_still table (told_by told) (told_by now) tell_since (swapped_found parts.ledger items) 0 (omega arith)) law many same;
  }

  module _ (base : List (List Tuple)) (rows : base ≡ map (λ p. start_of p.copy) items) where
    pub as_many : length base ≡ table.copies
    as_many = ap length rows ∙ (length-map items (λ (p : CopyPair D g). start_of p.copy) ∙ all)

    copy_found : IsLawful → (i : ℕ) (pair : CopyPair D g) → slice_get items i ≡ Some pair → IsMounted base found i pair
    copy_found law i pair is =
        let at = copy_at i pair is in
        let low : i + 1 ≤ table.copies = omega (arith, slice_get_within items i pair is, all) in
        record {
          active = record {
            number = at.is_copy.number_is;
            many = at.is_copy.copies ∙ sym as_many;
            starts = sym (ap (λ l. get_or l i []) rows ∙ at.start);
            disk = active_found_so table now parts.ledger items counts (i + 1) pair.fold (copy.journal_of pair.copy) (copy.records_of pair.copy) at.disks _ at.at told (active_still table (told_by told) (told_by now) tell_since (swapped_found parts.ledger items) (i + 1) low);
            limit = at.is_copy.limit_is ∙ sym store.mounted.ledger_is.limit_is;
          };
          other = other_found_so table now parts.ledger items counts (i + 1) pair.fold (copy.journal_of pair.copy) (copy.records_of pair.copy) at.disks _ at.at told (other_still table (told_by told) (told_by now) tell_since (swapped_found parts.ledger items) (i + 1) low) law (length base) as_many;
        }

    pub copies_found : IsLawful → AreMounted base found 0 items
    copies_found law = are_mounted base found 0 items (λ i pair is. subst (λ n. IsMounted base found n pair) (omega arith) (copy_found law i pair is))

    -- THE MOUNTING

    abbrev records : ℕ → List (List ℕ)
    records = bodies_found parts.ledger items

    abbrev swapped : ℕ → Bool
    swapped = swapped_found parts.ledger items

    -- what disks keep behind what was found they keep behind what the pairs tell since the folds
    pub kept_since : IsLawful → {E : Type 0} (view : E → DiskView) (Done : Type 0) (disks : List E) (past : Entries) → AllKeep (setting_of table base) found view Done disks past
        → AllKeep (setting_of table base)
        (findings swapped (limit_found parts.ledger) (epoch_found parts.ledger) records (λ pair. g.view (active_found parts.ledger items pair)) (λ pair. g.view (other_found parts.ledger items pair))
        (λ pair. is_some (of_active table swapped (told_by now) pair)) (λ pair. is_some (of_other table swapped (told_by now) pair)) (λ pair. bodies_told (of_other table swapped (told_by now) pair)) (numbers_found parts.ledger items)
        (λ pair. made_other table swapped pair)) view Done disks past
    kept_since law view Done disks past =
        keep_otherwise (setting_of table base) swapped (limit_found parts.ledger) (epoch_found parts.ledger) records (λ pair. g.view (active_found parts.ledger items pair)) (λ pair. g.view (other_found parts.ledger items pair))
        (numbers_found parts.ledger items) (λ pair. made_other table swapped pair) (active_given table told parts.ledger items) (λ pair. is_some (of_active table swapped (told_by now) pair))
        (other_given table told parts.ledger items) (λ pair. is_some (of_other table swapped (told_by now) pair)) (bodies_shown table told parts.ledger items) (λ pair. bodies_told (of_other table swapped (told_by now) pair))
        (λ pair low. active_back table (told_by told) (told_by now) tell_since swapped pair (omega (arith, low, as_many)))
        (λ pair low. other_back table (told_by told) (told_by now) tell_since swapped pair (omega (arith, low, as_many)))
        (λ pair low tells. all_shown law pair (omega (arith, low, as_many)) tells) view past Done disks

    module _ (proper : (body.table current_format).fits table) (small : parts.epoch < 2 ^ 32) (ledger_bytes : AreBytes (book.records_of parts.ledger.book)) (copies_bytes : All (λ p. AreBytes (copy.records_of p.copy)) items) where
      pair_bytes : (pair : ℕ) → pair ≤ table.copies → AreBytes (records pair)
      pair_bytes zero low = ledger_bytes
      pair_bytes (suc i) low =
          let (pair, is, at) = some_copy i (omega (arith, low)) in
          subst AreBytes (sym (mapped_at (λ p. copy.records_of p.copy) items i pair [] is)) (all_at (λ p. AreBytes (copy.records_of p.copy)) items i pair copies_bytes is)

      ledger_mounts : book.MountsLedger (active_number swapped 0) table store.limit (of_active table swapped (told_by now) 0) (records 0) parts.past parts.epoch
      ledger_mounts =
          let m = store.mounted.ledger_is.mounts.mounts in
          record {
            found = m.found;
            ledgers = m.ledgers;
            fine = subst (λ o. IfSome o (λ bytes. HasRecords m.found bytes × AreMountableAsLedger (active_number swapped 0) table store.limit m.found))
                (sym (active_told_is table now parts.ledger items counts 0 parts.ledger.fold (book.journal_of parts.ledger.book) (book.records_of parts.ledger.book) ledger_pair _ ledger_at)) m.fine;
            past_is = m.past_is;
            next = m.next;
            all = m.all;
          }

      copy_mounts : (i : ℕ) → i < table.copies → copy.MountsCopy (active_number swapped (i + 1)) table parts.past store.limit current_format (of_active table swapped (told_by now) (i + 1)) (records (i + 1))
      copy_mounts i there =
          let (pair, is, at) = some_copy i there in
          let at_pair = at.at in
          mounts_as (number_at (swapped_in pair.fold) (i + 1)) (active_number swapped (i + 1)) table parts.past store.limit current_format (if swapped_in pair.fold then at.is_copy.mounts.spare_now else at.is_copy.mounts.now)
          (of_active table swapped (told_by now) (i + 1)) (copy.records_of pair.copy) (records (i + 1)) (ap (λ b. number_at b (i + 1)) at_pair.swapped_is)
          (active_told_is table now parts.ledger items counts (i + 1) pair.fold (copy.journal_of pair.copy) (copy.records_of pair.copy) at.disks _ at_pair) at_pair.bodies_are at.is_copy.mounts.finds.mounts

      copy_starts : (i : ℕ) → i < table.copies
          → slice_index_or base i [] ≡ restored_row parts.past.tops (length table.records) (from_row (tuples_of_base table (base_in copy_base (records (i + 1))))) (granted_in table (records (i + 1)))
      copy_starts i there =
          let (pair, is, at) = some_copy i there in
          ap (λ l. get_or l i []) rows
          ∙ (at.start
          ∙ (at.is_copy.start ∙ ap (λ bs. restored_row parts.past.tops (length table.records) (from_row (tuples_of_base table (base_in copy_base bs))) (granted_in table bs)) (sym at.at.bodies_are)))

      actives_mounted : MountedOn (active_number swapped) table (of_active table swapped (told_by now)) records parts.epoch base
      actives_mounted = record { past = parts.past; limit = λ n. store.limit; proper = proper; small = small; bytes = pair_bytes; ledger = ledger_mounts; copies = copy_mounts; as_many = as_many; starts = copy_starts }

      ledger_have : HaveActive kind.Ledger 0 (told_by now 0) (told_by now (table.copies + 1 + 0)) (swapped 0) ledger_mounts.found
      unfolding ledger_mounts
      ledger_have =
          have_as kind.Ledger 0 (g.view ledger_pair.0).content (told_by now 0) (g.view ledger_pair.1).content (told_by now (table.copies + 1 + 0)) (swapped 0) (swapped 0) ledger_mounts.found ledger_at.own_told ledger_at.spare_told refl
          store.mounted.ledger_is.mounts.opens.have

      copy_have : (i : ℕ) (there : i < table.copies) → HaveActive kind.Copy (i + 1) (told_by now (i + 1)) (told_by now (table.copies + 1 + (i + 1))) (swapped (i + 1)) (copy_mounts i there).found
      unfolding copy_mounts mounts_as
      copy_have i there =
          let (pair, is, at) = some_copy i there in
          have_as kind.Copy (i + 1) at.is_copy.mounts.now (told_by now (i + 1)) at.is_copy.mounts.spare_now (told_by now (table.copies + 1 + (i + 1))) (swapped_in pair.fold) (swapped (i + 1)) at.is_copy.mounts.finds.mounts.found at.at.own_told at.at.spare_told at.at.swapped_is
          at.is_copy.mounts.finds.opens.have

      pub store_mounted : MountedInPairs table (told_by now) records parts.epoch base
      unfolding actives_mounted
      store_mounted = record { swapped = swapped; mounted = actives_mounted; ledger = ledger_have; copies = copy_have }

      -- with the numbers that were found
      store_numbers : AreNumbers store_mounted (numbers_found parts.ledger items)
      unfolding store_mounted actives_mounted ledger_mounts copy_mounts mounts_as
      store_numbers = record {
        ledger = store.mounted.ledger_is.mounts.opens.number_is;
        copies = λ i there. let (pair, is, at) = some_copy i there in at.at.number_is ∙ at.is_copy.mounts.finds.opens.number_is;
      }

    -- the same, by slices of what was mounted
    pub mounted_by : (body.table current_format).fits table → parts.epoch < 2 ^ 32 → (bodies : List (List ℕ)) → AreBytes bodies → bodies ≡ book.records_of parts.ledger.book
        → (slice : List (CopyPair D g)) → All (λ p. AreBytes (copy.records_of p.copy)) slice → slice ≡ items → MountedInPairs table (told_by now) records parts.epoch base
    mounted_by proper small bodies are_bytes of_ledger slice all_bytes of_copies =
        store_mounted proper small (subst AreBytes of_ledger are_bytes) (subst (All (λ (p : CopyPair D g). AreBytes (copy.records_of p.copy))) of_copies all_bytes)

    -- the spares that are active are those that were found
    pub swapped_by : (proper : (body.table current_format).fits table) (small : parts.epoch < 2 ^ 32) (bodies : List (List ℕ)) (are_bytes : AreBytes bodies) (of_ledger : bodies ≡ book.records_of parts.ledger.book)
        → (slice : List (CopyPair D g)) (all_bytes : All (λ p. AreBytes (copy.records_of p.copy)) slice) (of_copies : slice ≡ items) → (mounted_by proper small bodies are_bytes of_ledger slice all_bytes of_copies).swapped ≡ swapped
    unfolding mounted_by store_mounted
    swapped_by proper small bodies are_bytes of_ledger slice all_bytes of_copies = refl

    -- and so are the numbers
    pub numbers_by : (proper : (body.table current_format).fits table) (small : parts.epoch < 2 ^ 32) (bodies : List (List ℕ)) (are_bytes : AreBytes bodies) (of_ledger : bodies ≡ book.records_of parts.ledger.book)
        → (slice : List (CopyPair D g)) (all_bytes : All (λ p. AreBytes (copy.records_of p.copy)) slice) (of_copies : slice ≡ items) → AreNumbers (mounted_by proper small bodies are_bytes of_ledger slice all_bytes of_copies) (numbers_found parts.ledger items)
    unfolding mounted_by
    numbers_by proper small bodies are_bytes of_ledger slice all_bytes of_copies =
        store_numbers proper small (subst AreBytes of_ledger are_bytes) (subst (All (λ (p : CopyPair D g). AreBytes (copy.records_of p.copy))) of_copies all_bytes)
