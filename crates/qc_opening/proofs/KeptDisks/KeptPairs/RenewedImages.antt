-- A store that was mounted over disks some of which it folded first, for their older format, starts from what their images restore.
use Rattle.std.proofs.Common.{◌≡◌, ℕ, ◌+◌, ◌<◌, ◌≤◌, inl, inr, ◌⊎◌, true, List, [], ◌∷◌, ◌++◌, length, get_or, refl, sym, ap, ◌∙◌, subst, arith, append-nil}
use Rattle.std.specs.Prelude.{Bool, false, not, if◌then◌else◌, map, Option, None, Some, IfSome, IsSome, unwrap_or}
use Rattle.std.specs.List.{range_with_len}
use Rattle.std.proofs.lemmas.List.FromFn.{get_or-map-range_with_len, length-map-range_with_len}
use Rattle.qc_codec.specs.Base.{active, copy_base, format_in, ledger_base}
use Rattle.qc_codec.specs.Bodies as body
use Rattle.qc_codec.specs.Fields.{current_format}
use Rattle.qc_codec.specs.Ledger.{made_for, past_in}
use Rattle.qc_codec.specs.declared.past.Past.{Past}
use Rattle.qc_codec.proofs.Bases.{format_behind}
use Rattle.qc_codec.proofs.Fits.{made_proper, table_sized}
use Rattle.qc_config.specs.declared.tuple.Tuple.{Tuple}
use Rattle.qc_disk.specs.Disk.{Steps}
use Rattle.qc_event.specs.declared.table.Table.{Table}
use Rattle.qc_event.specs.Tables.{first_tuple}
use Rattle.qc_journal.proofs.Readings.{records-same}
use Rattle.qc_journal.specs.Image.{HasRecords}
use Rattle.qc_ledger.specs.Image as tops
use Rattle.qc_opening.specs.Disks.{all_places}
use Rattle.qc_opening.specs.Mountings.{IsCutOff}
use Rattle.qc_opening.specs.Pairs.{AreCutOffInPairs, HaveNoGrantsInPairs, IsFoldCutOff, IsPairCutOff, MountedInPairs}
use Rattle.qc_opening.specs.SinceFolds.{TellSinceFolds}
use Rattle.qc_opening.proofs.KeptDisks.KeptPairs.CutOffPairs.{still_restored}
use Rattle.qc_opening.proofs.KeptDisks.KeptPairs.NextMounting.{restores}
use Rattle.qc_opening.proofs.Otherwise.{mounted_otherwise}
use Rattle.qc_opening.proofs.ShownNow.{all_tell_now}
use Rattle.qc_pair.proofs.Halves.{active_has}
use Rattle.qc_pair.specs.Front.{base_form}
use Rattle.qc_pair.specs.Opening.{HaveActive}
use Rattle.qc_pair.specs.Pair.{number_at}
use Rattle.qc_pair.specs.declared.kind.Kind.{Kind}
use Rattle.qc_pair.specs.declared.kind.Kind.TheVariants as kind
use Rattle.qc_refine.proofs.Restoring.PairImages.{each_restored, pairs_restore_one, AnyBodies}
use Rattle.qc_refine.specs.Images.{IsCopyImage}
use Rattle.qc_refine.specs.Pairs.{image_of, spare_image, RestoreInPairs, TellsPair}
use Rattle.qc_site.specs.Image as grants
use Rattle.qc_site.proofs.PairRenewals.{not_older}
use Rattle.qc_site.specs.Renewal.{AreOlder, TellsNow, WasRenewed}

-- ONE PAIR

-- an image that is the same is left of one by a mounting that wrote nothing yet
unwritten : (written : List (List ℕ) → List (List ℕ)) (found : List (List ℕ)) (image later : List ℕ) → HasRecords found image → later ≡ image → IsCutOff written image later
unwritten written found image later had same = record {
  found = found;
  had = had;
  has = record { first = []; rest = written found; split = refl; has = subst (HasRecords (found ++ [])) (sym same) (subst (λ bodies. HasRecords bodies image) (sym (append-nil found)) had) };
}

-- which of both is active, where an image tells it
still_active : (form : Kind) (pair : ℕ) (written : ℕ → List (List ℕ) → List (List ℕ)) (image image' later later' : List ℕ) (is_spare : Bool) (found : List (List ℕ)) (have : HaveActive form pair (Some image) (Some image') is_spare found) → later ≡ image → later' ≡ image'
    → IsPairCutOff (base_form form) pair written image image' later later'
unfolding unwritten
still_active form pair written image image' later later' is_spare found have same same' = record {
  is_spare = is_spare;
  own = unwritten _ have.own image later have.has_own same;
  spare = unwritten _ have.spare image' later' have.has_spare same';
  swapped_is = have.swapped_is;
}

-- two images that are told
same_image : (o : Option (List ℕ)) (one two : List ℕ) → o ≡ Some one → o ≡ Some two → two ≡ one
same_image o one two first second = let both : Some two ≡ Some one = sym second ∙ first in cc

module _ (table : Table) (proper : (body.table current_format).fits table) (past : Past) (copy : ℕ) (there : copy < table.copies) (image image' later later' : List ℕ) (now spare_now : Option (List ℕ)) (now_is : now ≡ Some later) (spare_now_is : spare_now ≡ Some later') where
  -- a copy's pair that was folded is left amid the fold, at its end
  amid_fold : WasRenewed copy table (Some image) (Some image') past now spare_now → IsFoldCutOff table past copy image image' later later'
  amid_fold was = record {
    is_spare = was.is_spare;
    found = was.found;
    have = was.pair.have;
    made_fits = made_proper _ table (small was.is_spare) proper;
    base_fits = was.fits;
    same = same_by was.is_spare (active_has kind.Copy (copy + 1) (Some image) (Some image') was.is_spare was.found was.pair.have) was.same;
    folding = inr (inr (inr (folded_by was.is_spare _ was.folded)));
  }
    where
      few : table.copies ≤ 16
      few = (table_sized current_format table proper).copies

      small : (s : Bool) → number_at (not s) (copy + 1) < 256
      small true = omega (arith, there, few)
      small false = omega (arith, there, few)

      same_by : (s : Bool) → IfSome (if s then Some image' else Some image) (HasRecords was.found) → (if s then spare_now else now) ≡ (if s then Some image' else Some image) → HasRecords was.found (if s then later' else later)
      same_by true has same = subst (HasRecords was.found) (sym (same_image spare_now image' later' same spare_now_is)) has
      same_by false has same = subst (HasRecords was.found) (sym (same_image now image later same now_is)) has

      folded_by : (s : Bool) (P : List ℕ → Type 0) → Steps (λ before after. P after) (if s then Some image else Some image') (if s then now else spare_now) → P (if s then later else later')
      folded_by true P (c, is, has) = subst P (sym (same_image now c later is now_is)) has
      folded_by false P (c, is, has) = subst P (sym (same_image spare_now c later' is spare_now_is)) has

  -- it tells what it did, or was folded
  copy_cut : (is_spare : Bool) (found : List (List ℕ)) → HaveActive kind.Copy (copy + 1) now spare_now is_spare found → TellsNow copy table (Some image) (Some image') past now spare_now
      → IsPairCutOff copy_base (copy + 1) (λ number. grants.to_write number table) image image' later later' ⊎ IsFoldCutOff table past copy image image' later later'
  copy_cut is_spare found have (inl same) =
      inl (still_active kind.Copy (copy + 1) (λ number. grants.to_write number table) image image' later later' is_spare found
      (subst (λ o. HaveActive kind.Copy (copy + 1) o (Some image') is_spare found) same.0 (subst (λ o. HaveActive kind.Copy (copy + 1) now o is_spare found) same.1 have))
      (same_image now image later same.0 now_is) (same_image spare_now image' later' same.1 spare_now_is))
  copy_cut is_spare found have (inr was) = inr (amid_fold was)

  -- its images have some bodies
  copy_bodies : (is_spare : Bool) (found : List (List ℕ)) → HaveActive kind.Copy (copy + 1) now spare_now is_spare found → TellsNow copy table (Some image) (Some image') past now spare_now → TellsPair copy_base (copy + 1) AnyBodies image image'
  copy_bodies is_spare found have (inl same) = record {
    own = have.own;
    spare = have.spare;
    has = subst (λ o. IfSome o (HasRecords have.own)) same.0 have.has_own;
    has_spare = subst (λ o. IfSome o (HasRecords have.spare)) same.1 have.has_spare;
    tells = tt;
  }
  copy_bodies is_spare found have (inr was) = record { own = was.pair.have.own; spare = was.pair.have.spare; has = was.pair.have.has_own; has_spare = was.pair.have.has_spare; tells = tt }

-- ALL PAIRS

module _ (table : Table) (images : List (List ℕ)) (now : ℕ → Option (List ℕ)) (since : TellSinceFolds table (λ place. Some (get_or images place [])) now) (records : ℕ → List (List ℕ)) (epoch : ℕ) (base : List (List Tuple)) (m : MountedInPairs table now records epoch base)
    (as_many : length images ≡ table.copies + 1 + (table.copies + 1)) where
  -- the images since the folds
  later : List (List ℕ)
  later = map (λ place. unwrap_or (now place) []) (range_with_len 0 (all_places table.copies))

  some_image : (o : Option (List ℕ)) → IsSome o → o ≡ Some (unwrap_or o [])
  some_image None some = absurd cc
  some_image (Some image) some = refl

  now_is : (place : ℕ) → place < all_places table.copies → now place ≡ Some (get_or later place [])
  unfolding later
  now_is place low =
      some_image (now place) (all_tell_now table (λ n. Some (get_or images n [])) now since (λ n within. refl) place low)
      ∙ ap Some (sym (get_or-map-range_with_len (λ n. unwrap_or (now n) []) 0 (all_places table.copies) place place [] low (omega arith)))

  many_later : length later ≡ table.copies + 1 + (table.copies + 1)
  unfolding later
  many_later = length-map-range_with_len (λ place. unwrap_or (now place) []) 0 (all_places table.copies)

  -- the ledger's pair tells what it did
  cut : AreCutOffInPairs table images later
  unfolding still_active unwritten
  cut =
      let (is_spare, found, have, past_is) = since.tells in
      let past_so : since.past ≡ past_in (active ledger_base have.own have.spare) = past_is ∙ ap past_in have.are_active in
      record {
        as_many = many_later;
        ledger = still_active kind.Ledger 0 (λ number. tops.to_write number table) (image_of table images 0) (spare_image table images 0) (image_of table later 0) (spare_image table later 0) is_spare found have
            (same_image (now 0) (image_of table images 0) (image_of table later 0) since.ledger (now_is 0 (omega arith)))
            (same_image (now (table.copies + 1 + 0)) (spare_image table images 0) (spare_image table later 0) since.ledger_spare (now_is (table.copies + 1 + 0) (omega arith)));
        copies = λ copy there.
            subst (λ p. IsPairCutOff copy_base (copy + 1) (λ number. grants.to_write number table) (image_of table images (copy + 1)) (spare_image table images (copy + 1)) (image_of table later (copy + 1)) (spare_image table later (copy + 1))
            ⊎ IsFoldCutOff table p copy (image_of table images (copy + 1)) (spare_image table images (copy + 1)) (image_of table later (copy + 1)) (spare_image table later (copy + 1))) past_so
            (copy_cut table m.mounted.proper since.past copy there (image_of table images (copy + 1)) (spare_image table images (copy + 1)) (image_of table later (copy + 1)) (spare_image table later (copy + 1)) (now (copy + 1)) (now (table.copies + 1 + (copy + 1)))
            (now_is (copy + 1) (omega (arith, there))) (now_is (table.copies + 1 + (copy + 1)) (omega (arith, there))) (m.swapped (copy + 1)) _ (m.copies copy there) (since.copies copy there));
      }

  -- what the copies start with is what the images restore, which told this before the folds
  pub renewed_restore : RestoreInPairs table images base
  renewed_restore =
      let (is_spare, found, have, past_is) = since.tells in
      let (tuples, restored) = each_restored table images as_many
      (record { own = have.own; spare = have.spare; has = have.has_own; has_spare = have.has_spare; tells = tt })
      (λ copy there. copy_bodies table m.mounted.proper since.past copy there (image_of table images (copy + 1)) (spare_image table images (copy + 1)) (image_of table later (copy + 1)) (spare_image table later (copy + 1)) (now (copy + 1)) (now (table.copies + 1 + (copy + 1)))
      (now_is (copy + 1) (omega (arith, there))) (now_is (table.copies + 1 + (copy + 1)) (omega (arith, there))) (m.swapped (copy + 1)) _ (m.copies copy there) (since.copies copy there)) in
      let then_restored : RestoreInPairs table later base = restores table later records epoch base (mounted_otherwise table (λ place. Some (get_or later place [])) now records epoch base now_is m) many_later in
      let same : tuples ≡ base = pairs_restore_one table later tuples base (still_restored table images later cut tuples restored) then_restored in
      subst (RestoreInPairs table images) same restored

-- WHERE NO GRANT STANDS

module _ (table : Table) where
  abbrev HasNone : ℕ → List ℕ → Type 0
  HasNone disk image = HasRecords [] image ⊎ IsCopyImage table (map first_tuple table.records) [] disk image

  -- there are no bodies of an older format
  none_behind : (disk : ℕ) (found rest : List (List ℕ)) → found ≡ body.made.spell (made_for disk table) ∷ rest → body.made.fits (made_for disk table) → AreOlder found → ⊥
  none_behind disk found rest are fits older = not_older found (ap format_in are ∙ format_behind (made_for disk table) rest fits) older

  none_older : (disk : ℕ) (image : List ℕ) (found : List (List ℕ)) → HasNone disk image → HasRecords found image → AreOlder found → ⊥
  none_older disk image found (inl none) has older = subst AreOlder (records-same image [] found none has) older
  none_older disk image found (inr is) has older = none_behind disk found _ (records-same image is.bodies found is.has has ∙ is.tells.are) is.tells.made_fits older

  told_older : (disk : ℕ) (o : Option (List ℕ)) (found : List (List ℕ)) → IsSome o → IfSome o (HasNone disk) → IfSome o (HasRecords found) → AreOlder found → ⊥
  told_older disk None found some none has older = absurd cc
  told_older disk (Some image) found some none has older = none_older disk image found none has older

  -- so a copy's pair was not folded
  none_renewed : (copy : ℕ) (past : Past) (told spare_told now spare_now : Option (List ℕ)) → IsSome told × IfSome told (HasNone (number_at false (copy + 1))) → IsSome spare_told × IfSome spare_told (HasNone (number_at true (copy + 1)))
      → TellsNow copy table told spare_told past now spare_now → (now ≡ told) × (spare_now ≡ spare_told)
  none_renewed copy past told spare_told now spare_now none none_spare (inl same) = same
  none_renewed copy past told spare_told now spare_now none none_spare (inr was) = absurd (by was.is_spare (active_has kind.Copy (copy + 1) told spare_told was.is_spare was.found was.pair.have))
    where
      by : (s : Bool) → IfSome (if s then spare_told else told) (HasRecords was.found) → ⊥
      by true has = told_older (number_at true (copy + 1)) spare_told was.found none_spare.0 none_spare.1 has was.pair.older
      by false has = told_older (number_at false (copy + 1)) told was.found none.0 none.1 has was.pair.older

  -- and no grant stands since
  pub none_since : (told now : ℕ → Option (List ℕ)) → TellSinceFolds table told now → HaveNoGrantsInPairs table told → HaveNoGrantsInPairs table now
  none_since told now since none = (
    λ copy there. subst (λ o. IsSome o × IfSome o (HasNone (number_at false (copy + 1)))) (sym (same copy there).0) (none.0 copy there),
    λ copy there. subst (λ o. IsSome o × IfSome o (HasNone (number_at true (copy + 1)))) (sym (same copy there).1) (none.1 copy there),
  )
    where
      same : (copy : ℕ) → copy < table.copies → (now (copy + 1) ≡ told (copy + 1)) × (now (table.copies + 1 + (copy + 1)) ≡ told (table.copies + 1 + (copy + 1)))
      same copy there = none_renewed copy since.past _ _ _ _ (none.0 copy there) (none.1 copy there) (since.copies copy there)
