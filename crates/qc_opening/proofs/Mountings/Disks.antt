-- What mountings leave of disks.
use Rattle.std.proofs.Common.{◌≡◌, ℕ, zero, suc, ◌+◌, ◌<◌, ◌≤◌, List, [], ◌∷◌, length, map, subst, refl, arith, inl, inr, ⊎_elim, ap₂}
use Rattle.std.specs.Prelude.{◌↔◌, Option, Some}
use Rattle.std.specs.Prelude.{Bool}
use Rattle.qc_codec.specs.declared.past.Past.{Past}
use Rattle.qc_disk.specs.Disk.{DiskView}
use Rattle.qc_disk.specs.Shop.{Tells}
use Rattle.qc_event.specs.declared.table.Table.{Table}
use Rattle.qc_journal.specs.Image.{HasAt}
use Rattle.qc_journal.proofs.Moments.{falls_none, grows_by_falls, started, weakened}
use Rattle.qc_ledger.specs.Image as tops
use Rattle.qc_ledger.specs.Pairs.{IsHalfLeft, MountsHalf}
use Rattle.qc_opening.specs.Disks.{number_of, pair_at, is_spare_at, told_by, AreOffered, IsLeft, IsMounted, IsPairLeft, TellsPast}
use Rattle.qc_opening.specs.Numbered.{EachFrom}
use Rattle.qc_opening.specs.Refusing.{AreLeft, ArePairsLeft, FailedAt, IsBehind, TellImages}
use Rattle.qc_opening.proofs.Mountings.Numbered.{pairs_also, pairs_same}
use Rattle.qc_pair.specs.declared.fault.PairNo.{PairNo}
use Rattle.qc_pair.specs.declared.kind.Kind.{Kind}
use Rattle.qc_pair.specs.declared.kind.Kind.TheVariants as kind
use Rattle.qc_site.specs.Image as grants

module _ {D : Type 0} (view : D → DiskView) where
  -- a mounting that did not fail, behind a past of which this holds, too
  pub mounted_for : (table : Table) (Tells Told : Past → Type 0) (pair : ℕ) (told spare_told : Option (List ℕ)) (is_spare : Bool) (Failed Now : Type 0) (old new : D) → (Now → Failed) → (Failed → Now) → ((past : Past) → Tells past → Told past)
      → IsMounted view table Tells pair told spare_told is_spare Failed old new → IsMounted view table Told pair told spare_told is_spare Now old new
  mounted_for table Tells Told zero told spare_told is_spare Failed Now old new was is also mounted = record {
    any_moment = mounted.any_moment;
    grows = mounted.grows;
    cause = record { later = mounted.cause.later; failed = λ now. mounted.cause.failed (was now) };
    counts_once = record { once = mounted.counts_once.once; spared = λ never. mounted.counts_once.spared (λ failed. never (is failed)) };
  }
  mounted_for table Tells Told (suc copy) told spare_told is_spare Failed Now old new was is also mounted = record {
    any_moment = λ some. weakened view old new _ _ (mounted.any_moment some)
        (λ image. ⊎_elim inl (λ amid. inr (record { found = amid.found; pair = amid.pair; past = amid.past; tells = also amid.past amid.tells; fits = amid.fits; folding = amid.folding })));
    grows = mounted.grows;
    cause = record { later = mounted.cause.later; failed = λ now. mounted.cause.failed (was now) };
    counts_once = record { once = mounted.counts_once.once; spared = λ never. mounted.counts_once.spared (λ failed. never (is failed)) };
  }

  -- its count of faults has not fallen
  pub mounted_later : (table : Table) (Tells : Past → Type 0) (pair : ℕ) (told spare_told : Option (List ℕ)) (is_spare : Bool) (Failed : Type 0) (old new : D) → IsMounted view table Tells pair told spare_told is_spare Failed old new → (view old).faults ≤ (view new).faults
  mounted_later table Tells zero told spare_told is_spare Failed old new mounted = mounted.cause.later
  mounted_later table Tells (suc copy) told spare_told is_spare Failed old new mounted = mounted.cause.later

  module _ (here : (disk : D) (c : List ℕ) → (view disk).left_at (view disk).moment c ↔ (view disk).may_leave c) where
    unmoved_half : (form : Kind) (who : ℕ) (told spare_told : Option (List ℕ)) (written : ℕ → List (List ℕ) → List (List ℕ)) (is_spare : Bool) (Failed : Type 0) (disk : D) → (Failed → ⊥) → MountsHalf form who told spare_told written is_spare view Failed disk disk
    unmoved_half form who told spare_told written is_spare Failed disk none = record {
      any_moment = λ tells. started view disk (IsHalfLeft form who told spare_told written is_spare (view disk)) (λ c left. inl (inl ((here disk c).0 left)));
      grows = λ tells index had. grows_by_falls view disk disk (HasAt index had) (falls_none view disk);
      cause = record { later = omega arith; failed = λ failed. absurd (none failed) };
      counts_once = record { once = omega arith; spared = λ never. refl };
    }

    -- a disk that was not reached
    pub unmoved : (table : Table) (Tells : Past → Type 0) (pair : ℕ) (told spare_told : Option (List ℕ)) (is_spare : Bool) (Failed : Type 0) (disk : D) → (Failed → ⊥) → IsMounted view table Tells pair told spare_told is_spare Failed disk disk
    unmoved table Tells zero told spare_told is_spare Failed disk none = unmoved_half kind.Ledger 0 told spare_told (λ number. tops.to_write number table) is_spare Failed disk none
    unmoved table Tells (suc copy) told spare_told is_spare Failed disk none =
        let half = unmoved_half kind.Copy (copy + 1) told spare_told (λ number. grants.to_write number table) is_spare Failed disk none in
        record {
          any_moment = λ some. weakened view disk disk _ _ (half.any_moment some) (λ image left. inl left);
          grows = λ some. inl (half.grows some);
          cause = half.cause;
          counts_once = half.counts_once;
        }

    -- pairs that were not reached
    pub unreached_pairs : (table : Table) (Tells : Past → Type 0) (reason : PairNo) (pair : ℕ) (pairs : List (D × D)) → ((n : ℕ) → pair ≤ n → n < pair + length pairs → (FailedAt reason n → ⊥) × (FailedAt reason (n + 17) → ⊥)) → ArePairsLeft view table Tells reason pair pairs pairs
    unreached_pairs table Tells reason pair pairs none =
        pairs_same (IsPairLeft view table Tells (FailedAt reason) (IsBehind reason)) pair pairs (λ n disks from low. record {
          own = unmoved table Tells n (view disks.0).content (view disks.1).content _ (FailedAt reason n) disks.0 (none n from low).0;
          spare = unmoved table Tells n (view disks.0).content (view disks.1).content _ (FailedAt reason (n + 17)) disks.1 (none n from low).1;
          behind = λ b. refl;
        })

    -- disks in a row that were not reached
    pub unreached : (table : Table) (reason : PairNo) (disks : List D) → ((n : ℕ) → n < length disks → FailedAt reason (number_of table.copies n) → ⊥) → AreLeft view table reason disks disks
    unreached table reason disks none =
        let told : ℕ → Option (List ℕ) = told_by (map (λ disk. (view disk).content) disks) in
        pairs_same (IsLeft view table told (FailedAt reason) (IsBehind reason)) 0 disks (λ n disk from low. record {
          mounted = unmoved table (TellsPast (told 0) (told (table.copies + 1 + 0))) (pair_at table.copies n) (told (pair_at table.copies n)) (told (table.copies + 1 + pair_at table.copies n)) (is_spare_at table.copies n) (FailedAt reason (number_of table.copies n)) disk (none n (omega (arith, low)));
          behind = λ b. refl;
        })

  -- pairs that are left behind a past of which this holds are left so behind one of which that holds
  pub left_too : (table : Table) (Tells Told : Past → Type 0) (reason : PairNo) (pair : ℕ) (old new : List (D × D)) → ((past : Past) → Tells past → Told past) → ArePairsLeft view table Tells reason pair old new → ArePairsLeft view table Told reason pair old new
  left_too table Tells Told reason pair old new also =
      pairs_also (IsPairLeft view table Tells (FailedAt reason) (IsBehind reason)) (IsPairLeft view table Told (FailedAt reason) (IsBehind reason)) pair old new (λ n a b is. record {
        own = mounted_for table Tells Told n (view a.0).content (view a.1).content _ (FailedAt reason n) (FailedAt reason n) a.0 b.0 (λ failed. failed) (λ failed. failed) also is.own;
        spare = mounted_for table Tells Told n (view a.0).content (view a.1).content _ (FailedAt reason (n + 17)) (FailedAt reason (n + 17)) a.1 b.1 (λ failed. failed) (λ failed. failed) also is.spare;
        behind = is.behind;
      })

  -- what was offered is told
  pub tell : (offers : ℕ → Option (List ℕ)) (place : ℕ) (disks : List D) (images : List (List ℕ)) → AreOffered view offers place disks → EachFrom (λ n image. offers n ≡ Some image) place images
      → length disks ≡ length images → TellImages view disks images
  tell offers place [] [] offered told size = refl
  tell offers place [] (image ∷ images) offered told size = absurd (omega (arith, size))
  tell offers place (disk ∷ disks) [] offered told size = absurd (omega (arith, size))
  tell offers place (disk ∷ disks) (image ∷ images) offered told size =
      let here : (view disk).content ≡ Some image = subst (λ o. Tells o (view disk).content) told.0 offered.0 in
      let rest : TellImages view disks images = tell offers (place + 1) disks images offered.1 told.1 (omega (arith, size)) in
      ap₂ (λ (o : Option (List ℕ)) (l : List (Option (List ℕ))). o ∷ l) here rest
