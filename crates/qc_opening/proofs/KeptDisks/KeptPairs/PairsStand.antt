-- What is kept on a store's pairs of disks stands beside its history, each pair folded or not.
use Rattle.std.proofs.Common.{◌≡◌, ℕ, ◌+◌, ◌<◌, ◌≤◌, ⊎_elim, inl, inr, Bool, true, false, List, [], ◌∷◌, ◌++◌, length, get_or, refl, sym, ap, ◌∙◌, subst, arith}
use Rattle.std.specs.Prelude.{if◌then◌else◌, map, not, Option}
use Rattle.std.proofs.Math.Logic.{∥∥₁_elim, ∥∥₁_map, ∥∥₁_prop}
use Rattle.qc_codec.specs.Base.{number_of_base}
use Rattle.qc_codec.specs.Bodies as body
use Rattle.qc_codec.specs.Copy.{grant_form}
use Rattle.qc_codec.specs.Ledger.{made_for}
use Rattle.qc_codec.proofs.Fits.{made_proper, table_sized}
use Rattle.qc_codec.specs.Fields.{current_format}
use Rattle.qc_config.specs.declared.tuple.Tuple.{Tuple}
use Rattle.qc_event.specs.declared.table.Table.{Table}
use Rattle.qc_event.specs.History.{Past, limit}
use Rattle.qc_event.specs.Legal.{Legal}
use Rattle.qc_event.specs.Listed.{listed}
use Rattle.qc_event.specs.Tables.{setting_of}
use Rattle.qc_journal.specs.Image.{HasRecords}
use Rattle.qc_ledger.specs.Entered.{told_body}
use Rattle.qc_opening.specs.Mountings.{AreKept}
use Rattle.qc_opening.specs.Pairs.{AreFoldedInPairs, AreLeftByFolds, IsCopyFolded, IsFolded, IsLedgerFolded, IsUnfolded, MountedInPairs, active_images, active_number, next_base, of_active, other_image, other_made}
use Rattle.qc_opening.proofs.KeptDisks.Choices.{Each, each_at_once}
use Rattle.qc_opening.proofs.KeptDisks.KeptPairs.ActiveDisks.{HasActive, active_at}
use Rattle.qc_opening.proofs.KeptDisks.KeptPairs.FoldedDisks.{next_active, number_behind, still_active}
use Rattle.qc_opening.proofs.KeptDisks.KeptPairs.WrittenBodies.{mounted_copy_base, mounted_ledger_base}
use Rattle.qc_opening.proofs.KeptDisks.Stands as disks
use Rattle.qc_pair.specs.Front.{base_form, current_base, number_in}
use Rattle.qc_pair.specs.Opening.{HaveActive}
use Rattle.qc_pair.specs.Pair.{number_at}
use Rattle.qc_pair.specs.declared.kind.Kind.{Kind}
use Rattle.qc_pair.specs.declared.kind.Kind.TheVariants as kind
use Rattle.qc_refine.specs.Folded.{seen_row}
use Rattle.qc_refine.specs.Pairs.{IsFoldedCopy, IsFoldedLedger, StandInPairsWithin, TellsLedger, TellsPair, image_of, spare_image}
use Rattle.qc_refine.specs.Standing.{IsOfEpoch}
use Rattle.qc_site.specs.Back.{grant_body}
use Rattle.qc_system.specs.Left.{KeepsGrants, KeepsTops}
use Rattle.qc_refine.proofs.Restoring.ActiveImages.{CopyFolded, CopyLeft, LedgerLeft, left_stand}

-- the number of a disk or of its spare is a byte
byte_number : (is_spare : Bool) (pair : ℕ) → pair ≤ 16 → number_at is_spare pair < 256
byte_number true pair low = omega (arith, low)
byte_number false pair low = omega (arith, low)

module _ (table : Table) (told : ℕ → Option (List ℕ)) (records : ℕ → List (List ℕ)) (epoch : ℕ) (base : List (List Tuple)) (m : MountedInPairs table told records epoch base) where
  module _ (past : Past) (images : List (List ℕ)) where
    abbrev actives : List (List ℕ)
    actives = active_images table m.swapped images

    abbrev number : ℕ → ℕ
    number = active_number m.swapped

    -- the active image of a pair
    abbrev active : ℕ → List ℕ
    active pair = get_or actives pair []

    active_is : (pair : ℕ) → pair < table.copies + 1 → active pair ≡ of_active table m.swapped (image_of table images) pair
    active_is = active_at table m.swapped images

    -- ONE PAIR

    -- of bodies that were found the active image has bodies with the same base
    abbrev HasSameBase : Kind → ℕ → List (List ℕ) → Type 0
    HasSameBase form pair found = (bodies : List (List ℕ)) × HasRecords bodies (active pair) × (number_in form bodies ≡ number_in form found)

    module _ (form : Kind) (pair : ℕ) (there : pair < table.copies + 1) (found : List (List ℕ)) (have : HaveActive form pair (told pair) (told (table.copies + 1 + pair)) (m.swapped pair) found)
        (same : HasSameBase form pair found) where
      active_has : HasRecords same.0 (of_active table m.swapped (image_of table images) pair)
      active_has = subst (HasRecords same.0) (active_is pair there) same.1

      -- where no fold was finished it is still active
      unfolded_active : IsUnfolded (if m.swapped pair then have.own else have.spare) (other_made m past images pair) (other_image m past images pair)
          → HasActive form pair (m.swapped pair) (active pair) (image_of table images pair) (spare_image table images pair)
      unfolded_active unfolded = still_active form pair _ (told pair) (told (table.copies + 1 + pair)) (m.swapped pair) found same.0 (image_of table images pair) (spare_image table images pair) (other_made m past images pair) have
          same.2 active_has unfolded (refl, same.1)

      made_fits : body.made.fits (made_for (number_at (not (m.swapped pair)) pair) table)
      made_fits =
          let few = (table_sized current_format table m.mounted.proper).copies in
          made_proper (number_at (not (m.swapped pair)) pair) table (byte_number (not (m.swapped pair)) pair (omega (arith, there, few))) m.mounted.proper

      -- where it was folded the other image is
      folded_active : (Tells : ℕ → List (List ℕ) → Type 0) (tuples : List Tuple) → IsFolded form table found epoch tuples (other_made m past images pair) (other_image m past images pair)
          → Tells (number_at (not (m.swapped pair)) pair) (other_made m past images pair ∷ (current_base form table).spell (next_base form found epoch tuples) ∷ [])
          → TellsPair (base_form form) pair Tells (image_of table images pair) (spare_image table images pair)
      folded_active Tells tuples folded t = next_active form pair Tells (image_of table images pair) (spare_image table images pair) (m.swapped pair)
          (other_made m past images pair ∷ (current_base form table).spell (next_base form found epoch tuples) ∷ []) same.0
          (number_behind form table (number_at (not (m.swapped pair)) pair) (next_base form found epoch tuples) made_fits folded.fits ∙ ap (λ n. n + 1) (sym same.2))
          folded.has active_has t

    -- THE LEDGER'S

    -- behind its records the active image tells tops
    ledger_same : KeepsTops (records 0) (λ image. image ≡ active 0) past → HasSameBase kind.Ledger 0 m.mounted.ledger.found
    ledger_same keeps =
        let l = m.mounted.ledger in
        let (given, or, has) = keeps.each (active 0) refl in
        let more = map (told_body (listed past)) given in (
          records 0 ++ more,
          has,
          ap (λ bodies. number_in kind.Ledger (bodies ++ more)) l.all ∙ ap number_of_base (mounted_ledger_base (number 0) table l.found more),
        )

    ledger_folded : HasSameBase kind.Ledger 0 m.mounted.ledger.found → IsLedgerFolded m past images → TellsLedger table images (IsFoldedLedger table epoch)
    ledger_folded same folded = folded_active kind.Ledger 0 (omega arith) m.mounted.ledger.found m.ledger same (IsFoldedLedger table epoch) [] folded (record {
      base = next_base kind.Ledger m.mounted.ledger.found epoch [];
      of_epoch = refl;
      made_fits = made_fits kind.Ledger 0 (omega arith) m.mounted.ledger.found m.ledger same;
      base_fits = folded.fits;
      are = refl;
    })

    -- A COPY'S

    -- that of a copy tells grants
    copy_same : (copy : ℕ) (there : copy < table.copies) → KeepsGrants (setting_of table base) (length base) copy (records (copy + 1)) (λ image. image ≡ active (copy + 1)) past
        → HasSameBase kind.Copy (copy + 1) (m.mounted.copies copy there).found
    copy_same copy there keeps =
        let c = m.mounted.copies copy there in
        let (given, or, has) = keeps.each (active (copy + 1)) refl in
        let more = map (grant_form table).spell given in (
          records (copy + 1) ++ more,
          subst (λ n. HasRecords (records (copy + 1) ++ map (grant_body n) given) (active (copy + 1))) m.mounted.as_many has,
          ap (λ bodies. number_in kind.Copy (bodies ++ more)) c.all ∙ ap number_of_base (mounted_copy_base (number (copy + 1)) table c.found given),
        )

    copy_folded : (copy : ℕ) (there : copy < table.copies) → HasSameBase kind.Copy (copy + 1) (m.mounted.copies copy there).found → IsCopyFolded m past images copy there → CopyFolded table base epoch past images copy
    copy_folded copy there same folded =
        let c = m.mounted.copies copy there in
        folded_active kind.Copy (copy + 1) (omega (arith, there)) c.found (m.copies copy there) same (IsFoldedCopy table epoch (seen_row (setting_of table base) past copy)) (seen_row (setting_of table base) past copy) folded (record {
          base = next_base kind.Copy c.found epoch (seen_row (setting_of table base) past copy);
          of_epoch = refl;
          holds = refl;
          made_fits = made_fits kind.Copy (copy + 1) (omega (arith, there)) c.found (m.copies copy there) same;
          base_fits = folded.fits;
          are = refl;
        })

    -- ALL PAIRS

    -- what the active image of each copy's pair has
    abbrev CopiesSame : Type 0
    CopiesSame = (copy : ℕ) (there : copy < table.copies) → HasSameBase kind.Copy (copy + 1) (m.mounted.copies copy there).found

    module _ (left : AreLeftByFolds m past images) where
      copy_left : CopiesSame → Each table.copies (CopyLeft table base epoch past images number actives)
      copy_left same copy there = ⊎_elim
          (λ unfolded. inl (unfolded_active kind.Copy (copy + 1) (omega (arith, there)) (m.mounted.copies copy there).found (m.copies copy there) (same copy there) unfolded))
          (λ folded. inr (folded.0, copy_folded copy there (same copy there) folded.1))
          (left.copies copy there)

      ledger_left : HasSameBase kind.Ledger 0 m.mounted.ledger.found → CopiesSame → LedgerLeft table base epoch past images number actives
      ledger_left ledger same = ⊎_elim
          (λ unfolded. inl (unfolded_active kind.Ledger 0 (omega arith) m.mounted.ledger.found m.ledger ledger unfolded))
          (λ folded. inr (folded.0, ledger_folded ledger folded.1, λ copy there. copy_folded copy there (same copy there) (folded.2 copy there)))
          left.ledger

  -- what the active image of each pair has
  all_same : (past : Past) (images : List (List ℕ)) → AreKept table base records past (active_images table m.swapped images)
      → ∥ HasSameBase past images kind.Ledger 0 m.mounted.ledger.found × CopiesSame past images ∥₁
  all_same past images active =
      ∥∥₁_elim (∥∥₁_map active.ledger (ledger_same past images)) ∥∥₁_prop (λ ledger.
      ∥∥₁_map (each_at_once table.copies (λ copy. (there : copy < table.copies) → HasSameBase past images kind.Copy (copy + 1) (m.mounted.copies copy there).found)
      (λ copy there. ∥∥₁_map (active.copies copy there) (λ keeps there. copy_same past images copy there keeps)))
      (λ same. (ledger, λ copy there. same copy there there)))

  -- the images of pairs that keep a legal history, and were folded or not, stand beside it
  pub stand : (past : Past) (images : List (List ℕ)) → Legal (setting_of table base) past → length past ≤ limit → IsOfEpoch epoch past → AreLeftByFolds m past images
      → ∥ StandInPairsWithin 1 table base epoch past images ∥₁
  stand past images legal few of_epoch left =
      let number = active_number m.swapped in
      let actives = active_images table m.swapped images in
      ∥∥₁_elim (disks.stand number table (of_active table m.swapped told) records epoch base m.mounted past actives legal few of_epoch left.active) ∥∥₁_prop (λ s.
      ∥∥₁_map (all_same past images left.active)
      (λ same. left_stand table base epoch past images number actives 1 s left.as_many (ledger_left past images left same.0 same.1) (copy_left past images left same.1)))

  -- where each pair was folded, they tell so
  pub tell_folded : (past : Past) (images : List (List ℕ)) → AreKept table base records past (active_images table m.swapped images)
      → IsLedgerFolded m past images → ((copy : ℕ) (there : copy < table.copies) → IsCopyFolded m past images copy there) → ∥ AreFoldedInPairs table base epoch past images ∥₁
  tell_folded past images active ledger copies = ∥∥₁_map (all_same past images active)
      (λ same. (ledger_folded past images same.0 ledger, λ copy there. copy_folded past images copy there (same.1 copy there) (copies copy there)))
