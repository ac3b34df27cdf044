-- Images of the disks that a system hands back, one of each, are what is left of them by folds; and where each pair was
-- folded, they have what that leaves.
use Rattle.std.proofs.Common.{◌≡◌, ◌⊎◌, ℕ, zero, suc, ◌+◌, ◌<◌, ◌≤◌, ◌^◌, ⊎_elim, inl, inr, Bool, true, false, List, [], ◌∷◌, length, get_or, refl, sym, ap, ◌∙◌, subst, arith}
use Rattle.std.proofs.Math.Logic.{∥∥₁_elim, ∥∥₁_map, ∥∥₁_prop}
use Rattle.std.specs.Prelude.{◌↔◌, if◌then◌else◌, All, Option, Some, is_some, slice_get}
use Rattle.qc_codec.specs.Fields as field
use Rattle.qc_codec.specs.Fields.{current}
use Rattle.qc_config.specs.declared.tuple.Tuple.{Tuple}
use Rattle.qc_disk.specs.Disk.{DiskView as Disk}
use Rattle.qc_event.specs.declared.table.Table.{Table}
use Rattle.qc_event.specs.Base.{Setting}
use Rattle.qc_event.specs.History.{Past}
use Rattle.qc_event.specs.Standing.{HasEnded}
use Rattle.qc_event.specs.Tables.{setting_of}
use Rattle.qc_journal.specs.Image.{HasRecords}
use Rattle.qc_opening.specs.Disks.{all_places}
use Rattle.qc_opening.specs.Mountings.{AreKept}
use Rattle.qc_opening.specs.Numbered.{PairsFrom}
use Rattle.qc_opening.specs.Pairs.{active_images, made_other, of_active, of_other, AreLeftByFolds, AreNumbers, AreOthers, IsCopyFolded, IsLedgerFolded, IsUnfolded, MountedInPairs}
use Rattle.qc_opening.specs.Stored.{active_place, other_place}
use Rattle.qc_opening.proofs.KeptOtherwise.{findings}
use Rattle.qc_opening.proofs.KeptPlaces.{active_keeps, active_there, disks_many, other_has, other_keeps, other_there, pair_there, OtherIsLeft}
use Rattle.qc_opening.proofs.KeptDisks.Choices.{Each, each_at_once}
use Rattle.qc_opening.proofs.KeptDisks.OneImage.{told_grants, told_tops}
use Rattle.qc_opening.proofs.KeptDisks.KeptPairs.ActiveDisks.{active_at, active_many}
use Rattle.qc_opening.proofs.KeptDisks.KeptPairs.NextBases.{base_of_copy, folded_so}
use Rattle.qc_pair.specs.Folding.{IsFolding}
use Rattle.qc_pair.specs.declared.kind.Kind.TheVariants as kind
use Rattle.qc_refine.specs.Folded.{seen_row}
use Rattle.qc_refine.specs.Pairs.{image_of}
use Rattle.qc_system.specs.Closing.{AllKeep, AreFolded, CopyKeeps, LedgerKeeps}
use Rattle.qc_system.specs.Folds.{base_in, held_at, OtherKeeps}
use Rattle.qc_system.specs.Left.{KeepsGrants, KeepsTops}
use Rattle.qc_system.specs.Parts.{Findings}

-- one of each disk's images
module _ {D : Type 0} (view : D → Disk) where
  image_left : (number : ℕ) (disks : List D) (images : List (List ℕ)) → PairsFrom (λ n disk image. (view disk).may_leave image) number disks images → (i : ℕ) (disk : D) → slice_get disks i ≡ Some disk → (view disk).may_leave (get_or images i [])
  image_left number [] images pairs i disk is = absurd cc
  image_left number (d ∷ disks) [] pairs i disk is = absurd pairs
  image_left number (d ∷ disks) (image ∷ images) pairs zero disk is = let same : d ≡ disk = cc in subst (λ x. (view x).may_leave image) same pairs.0
  image_left number (d ∷ disks) (image ∷ images) pairs (suc i) disk is = image_left (number + 1) disks images pairs.1 i disk is

  as_many_images : (number : ℕ) (disks : List D) (images : List (List ℕ)) → PairsFrom (λ n disk image. (view disk).may_leave image) number disks images → length images ≡ length disks
  as_many_images number [] [] pairs = refl
  as_many_images number [] (image ∷ images) pairs = absurd pairs
  as_many_images number (d ∷ disks) [] pairs = absurd pairs
  as_many_images number (d ∷ disks) (image ∷ images) pairs = ap suc (as_many_images (number + 1) disks images pairs.1)

-- what is of one of both, at the place of that one
pub one_at : {A : Type 0} (at : ℕ → A) (is_spare : Bool) (place spare_place : ℕ) → at (if is_spare then spare_place else place) ≡ (if is_spare then at spare_place else at place)
one_at at true place spare_place = refl
one_at at false place spare_place = refl

-- so of what was told of each place
one_told : (told : ℕ → Option (List ℕ)) (is_spare : Bool) (place spare_place : ℕ) → is_some (told place) ≡ true → is_some (told spare_place) ≡ true → is_some (if is_spare then told spare_place else told place) ≡ true
one_told told true place spare_place own spare = spare
one_told told false place spare_place own spare = own

-- where each disk told its bytes, so did the active one of each pair, and the other one
module _ (table : Table) (told : ℕ → Option (List ℕ)) (swapped : ℕ → Bool) (tells : (place : ℕ) → place < all_places table.copies → is_some (told place) ≡ true) where
  pub active_told : (pair : ℕ) → pair ≤ table.copies → is_some (of_active table swapped told pair) ≡ true
  active_told pair low = one_told told (swapped pair) pair (table.copies + 1 + pair) (tells pair (omega (arith, low))) (tells (table.copies + 1 + pair) (omega (arith, low)))

  pub other_told : (pair : ℕ) → pair ≤ table.copies → is_some (of_other table swapped told pair) ≡ true
  other_told pair low = one_told told (swapped pair) (table.copies + 1 + pair) pair (tells (table.copies + 1 + pair) (omega (arith, low))) (tells pair (omega (arith, low)))

module _ {D : Type 0} (view : D → Disk) (table : Table) (told : ℕ → Option (List ℕ)) (records : ℕ → List (List ℕ)) (epoch : ℕ) (base : List (List Tuple)) (m : MountedInPairs table told records epoch base) (others : ℕ → List (List ℕ)) (numbers : ℕ → ℕ) (numbers_are : AreNumbers m numbers) (most : ℕ)
    (first other_first : ℕ → Disk) (Done : Type 0) (disks : List D) (past : Past) where
  abbrev found : Findings
  found = findings m.swapped most epoch records first other_first (λ pair. is_some (of_active table m.swapped told pair)) (λ pair. is_some (of_other table m.swapped told pair)) others numbers (λ pair. made_other table m.swapped pair)

  abbrev setting : Setting
  setting = setting_of table base

  module _ (all : AllKeep setting found view Done disks past) (tells : (place : ℕ) → place < all_places table.copies → is_some (told place) ≡ true) (images : List (List ℕ)) (left : PairsFrom (λ n disk image. (view disk).may_leave image) 0 disks images) where
    many : length setting.base ≡ table.copies
    many = m.mounted.as_many

    as_many : length images ≡ table.copies + 1 + (table.copies + 1)
    as_many = as_many_images view 0 disks images left ∙ disks_many view setting found table Done disks past all many

    -- THE ACTIVE IMAGES

    abbrev actives : List (List ℕ)
    actives = active_images table m.swapped images

    -- that of a pair is left of the active disk
    active_left : (pair : ℕ) → pair ≤ table.copies → (disk : D) → slice_get disks (active_place table m.swapped pair) ≡ Some disk → (view disk).may_leave (get_or actives pair [])
    active_left pair low disk is =
        subst (view disk).may_leave
        (one_at (λ place. get_or images place []) (m.swapped pair) pair (table.copies + 1 + pair) ∙ sym (active_at table m.swapped images pair (omega (arith, low))))
        (image_left view 0 disks images left (active_place table m.swapped pair) disk is)

    active_tops : ∥ KeepsTops (records 0) (λ image. image ≡ get_or actives 0 []) past ∥₁
    active_tops =
        let d = all.ledger in
        let (disk, is) = active_there view setting found table Done disks past all many 0 d.own d.spare d.there in
        told_tops (records 0) (view disk).may_leave past (get_or actives 0 []) (active_left 0 (omega arith) disk is) (is_some (of_active table m.swapped told 0)) (active_told table told m.swapped tells 0 (omega arith))
        (active_keeps view setting found table Done disks past all many 0 (LedgerKeeps setting found) d disk is).kept

    active_grants : (copy : ℕ) → copy < table.copies → ∥ KeepsGrants setting (length base) copy (records (copy + 1)) (λ image. image ≡ get_or actives (copy + 1) []) past ∥₁
    active_grants copy there =
        let d = all.copies copy (omega (arith, there, many)) in
        let (disk, is) = active_there view setting found table Done disks past all many (copy + 1) d.own d.spare d.there in
        told_grants (records (copy + 1)) (view disk).may_leave past (get_or actives (copy + 1) []) (active_left (copy + 1) (omega (arith, there)) disk is) setting (length base) copy (is_some (of_active table m.swapped told (copy + 1)))
        (active_told table told m.swapped tells (copy + 1) (omega (arith, there))) (active_keeps view setting found table Done disks past all many (copy + 1) (CopyKeeps setting found copy) d disk is).kept

    pub actives_kept : AreKept table base records past actives
    actives_kept = record { as_many = active_many table m.swapped images; ledger = active_tops; copies = active_grants }

    -- THE OTHER IMAGES

    abbrev other : ℕ → List ℕ
    other pair = of_other table m.swapped (image_of table images) pair

    -- that of a pair is left of the other disk
    other_left : (pair : ℕ) (disk : D) → slice_get disks (other_place table m.swapped pair) ≡ Some disk → (view disk).may_leave (other pair)
    other_left pair disk is =
        subst (view disk).may_leave (one_at (λ place. get_or images place []) (m.swapped pair) (table.copies + 1 + pair) pair)
        (image_left view 0 disks images left (other_place table m.swapped pair) disk is)

    -- it has what a fold leaves that was finished
    abbrev HasFolded : ℕ → Type 0
    HasFolded pair = (numbers pair < 2 ^ 63) × All (field.tuple (current (length base))).fits (held_at setting pair past)
        × HasRecords (made_other table m.swapped pair ∷ base_in setting found pair (held_at setting pair past) ∷ []) (other pair)

    -- or no such fold was
    abbrev HasLeft : ℕ → Type 0
    HasLeft pair = IsUnfolded (others pair) (made_other table m.swapped pair) (other pair) ⊎ (HasEnded past × HasFolded pair)

    has_folded : (from : ℕ) → AreFolded setting found view from all.pairs past → (pair : ℕ) → from ≤ pair → pair ≤ table.copies → HasFolded pair
    has_folded from folded pair above low =
        let (both, there) = pair_there view setting found table Done disks past all many pair low in
        let (disk, is) = other_there view setting found table Done disks past all many pair both.0 both.1 there in
        let f = folded pair both.0 both.1 above there in
        let has = other_has view setting found table Done disks past all many pair both.0 both.1 there
        (λ d. (image : List ℕ) → d.may_leave image → HasRecords (made_other table m.swapped pair ∷ base_in setting found pair (held_at setting pair past) ∷ []) image) disk is (f.has (other_told table told m.swapped tells pair low)) in
        (f.next, f.fit, has (other pair) (other_left pair disk is))

    ledger_folded : HasFolded 0 → IsLedgerFolded m past images
    ledger_folded f =
        folded_so kind.Ledger table m.mounted.ledger.found epoch [] (made_other table m.swapped 0) (other 0) m.mounted.small refl
        (length base) (numbers 0) [] many numbers_are.ledger refl f.0 f.1 f.2

    copy_folded : (copy : ℕ) (there : copy < table.copies) → HasFolded (copy + 1) → IsCopyFolded m past images copy there
    copy_folded copy there f =
        let next : copy + 1 ≡ suc copy = omega arith in
        folded_so kind.Copy table (m.mounted.copies copy there).found epoch (seen_row setting past copy) (made_other table m.swapped (copy + 1)) (other (copy + 1)) m.mounted.small
        (base_of_copy table base past copy) (length base) (numbers (copy + 1)) (held_at setting (copy + 1) past) many (numbers_are.copies copy there) (ap (λ n. held_at setting n past) next) f.0 f.1 f.2

    -- where each pair was folded
    pub images_folded : AreFolded setting found view 0 all.pairs past → IsLedgerFolded m past images × ((copy : ℕ) (there : copy < table.copies) → IsCopyFolded m past images copy there)
    images_folded folded = (
      ledger_folded (has_folded 0 folded 0 (omega arith) (omega arith)),
      λ copy there. copy_folded copy there (has_folded 0 folded (copy + 1) (omega arith) (omega (arith, there))),
    )

    module _ (are : AreOthers m others) (now : (disk : D) (c : List ℕ) → (view disk).left_at (view disk).moment c ↔ (view disk).may_leave c) where
      -- what was found, or what a fold leaves
      by_fold : (pair : ℕ) → HasEnded past → (numbers pair < 2 ^ 63) → All (field.tuple (current (length base))).fits (held_at setting pair past)
          → IsFolding (others pair) (made_other table m.swapped pair) (base_in setting found pair (held_at setting pair past)) (other pair) → HasLeft pair
      by_fold pair ended low fit (inl has) = inl (inl has)
      by_fold pair ended low fit (inr (inl has)) = inl (inr (inl has))
      by_fold pair ended low fit (inr (inr (inl has))) = inl (inr (inr has))
      by_fold pair ended low fit (inr (inr (inr has))) = inr (ended, (low, fit, has))

      has_kept : (pair : ℕ) → pair ≤ table.copies → (disk : D) → slice_get disks (other_place table m.swapped pair) ≡ Some disk → OtherKeeps setting found pair (view disk) → ∥ HasLeft pair ∥₁
      has_kept pair low disk is keeps = ∥∥₁_map keeps.kept (λ has. inl (inl (has (other_told table told m.swapped tells pair low) (other pair) (other_left pair disk is))))

      has_left : (pair : ℕ) → pair ≤ table.copies → (disk : D) → slice_get disks (other_place table m.swapped pair) ≡ Some disk → OtherIsLeft setting found pair past (view disk) → ∥ HasLeft pair ∥₁
      has_left pair low disk is = ⊎_elim (has_kept pair low disk is) (λ folds. ∥∥₁_map folds.1.folds (λ folding.
          let f = folding (other_told table told m.swapped tells pair low) in
          by_fold pair folds.0 folds.1.next folds.1.fit (f.each (view disk).moment f.later (omega arith) (other pair) ((now disk (other pair)).1 (other_left pair disk is)))))

      copy_has : (copy : ℕ) → copy < table.copies → ∥ HasLeft (copy + 1) ∥₁
      copy_has copy there =
          let d = all.copies copy (omega (arith, there, many)) in
          let (disk, is) = other_there view setting found table Done disks past all many (copy + 1) d.own d.spare d.there in
          has_left (copy + 1) (omega (arith, there)) disk is (other_keeps view setting found table Done disks past all many (copy + 1) (CopyKeeps setting found copy) d disk is)

      -- the ledger's, which was folded only where each copy's was
      abbrev LedgerHas : Type 0
      LedgerHas = IsUnfolded (others 0) (made_other table m.swapped 0) (other 0) ⊎ (HasEnded past × HasFolded 0 × ((copy : ℕ) → copy < table.copies → HasFolded (copy + 1)))

      unfolded_has : ∥ HasLeft 0 ∥₁ → (HasEnded past × HasFolded 0 → ∥ LedgerHas ∥₁) → ∥ LedgerHas ∥₁
      unfolded_has has folded = ∥∥₁_elim has ∥∥₁_prop (λ either. ⊎_elim (λ unfolded. ∣ inl unfolded ∣₁) folded either)

      ledger_has : ∥ LedgerHas ∥₁
      ledger_has =
          let d = all.ledger in
          let (disk, is) = other_there view setting found table Done disks past all many 0 d.own d.spare d.there in
          let kept = other_keeps view setting found table Done disks past all many 0 (LedgerKeeps setting found) d disk is in
          unfolded_has (has_left 0 (omega arith) disk is kept) (λ f. ⊎_elim
          (λ keeps. ∥∥₁_map (other_has view setting found table Done disks past all many 0 d.own d.spare d.there (OtherKeeps setting found 0) disk is keeps).kept
          (λ has. inl (inl (has (other_told table told m.swapped tells 0 (omega arith)) (other 0) (other_left 0 disk is)))))
          (λ folded. ∣ inr (f.0, f.1, λ copy there. has_folded 1 folded (copy + 1) (omega arith) (omega (arith, there))) ∣₁)
          all.last)

      are_left : LedgerHas → Each table.copies (λ copy. HasLeft (copy + 1)) → AreLeftByFolds m past images
      are_left ledger copies = record {
        as_many = as_many;
        active = actives_kept;
        ledger = ⊎_elim (λ unfolded. inl (subst (λ bodies. IsUnfolded bodies (made_other table m.swapped 0) (other 0)) are.ledger unfolded))
            (λ f. inr (f.0, ledger_folded f.1, λ copy there. copy_folded copy there (f.2 copy there))) ledger;
        copies = λ copy there. ⊎_elim (λ unfolded. inl (subst (λ bodies. IsUnfolded bodies (made_other table m.swapped (copy + 1)) (other (copy + 1))) (are.copies copy there) unfolded))
            (λ f. inr (f.0, copy_folded copy there f.1)) (copies copy there);
      }

      -- where all disks tell their bytes
      pub images_left : ∥ AreLeftByFolds m past images ∥₁
      images_left = ∥∥₁_elim ledger_has ∥∥₁_prop (λ ledger. ∥∥₁_map (each_at_once table.copies (λ copy. HasLeft (copy + 1)) copy_has) (λ copies. are_left ledger copies))
