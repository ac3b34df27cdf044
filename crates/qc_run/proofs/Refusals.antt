-- Why no store was mounted, by what the mounting answered.
use Rattle.std.proofs.Common.{ℕ, ◌≡◌, ◌+◌, ◌-◌, ◌<◌, ◌≤◌, zero, suc, Bool, true, List, [], ◌∷◌, length, refl, sym, subst, inl, inr, arith, ap, ◌∙◌}
use Rattle.std.specs.Prelude.{◌⊎◌, if◌then◌else◌, nat_lt, slice_get, Option, Some}
use Rattle.std.proofs.lemmas.Bool.{le-ltb, lt-ltb}
use Rattle.qc_codec.specs.declared.past.Past.{Past}
use Rattle.qc_disk.specs.Disk.{DiskView, HasCause, Rose}
use Rattle.qc_disk.specs.Shop.{ShopView as Shop}
use Rattle.qc_event.specs.declared.table.Table.{Table}
use Rattle.qc_opening.specs.Disks.{all_places, by_place, number_of, AreCounted, IsLeft, IsMounted}
use Rattle.qc_opening.specs.Images.{Offers}
use Rattle.qc_opening.specs.Numbered.{PairsFrom}
use Rattle.qc_opening.specs.Obtained.{IsNotGiven}
use Rattle.qc_opening.specs.Refusing.{disks_in, ComeBack, IsAmong, IsFaultOf, IsNotMounted}
use Rattle.qc_opening.specs.declared.mount_no.MountNo.{MountNo}
use Rattle.qc_opening.specs.declared.mount_no.MountNo.TheVariants as no
use Rattle.qc_pair.specs.Pair.{number_at}
use Rattle.qc_script.specs.Plan.{ScriptPlan}
use Rattle.qc_run.specs.Left.{IsStatusOf, IsUnmounted}
use Rattle.qc_run.specs.Run.{journal_limit}
use Rattle.qc_run.specs.declared.status.Status.{Status}

-- THE PLACE OF A DISK

-- the number at a place, by whether a spare stands there
abbrev number_if : ℕ → ℕ → Bool → ℕ
number_if copies place is_spare = number_at is_spare (if is_spare then place - (copies + 1) else place)

own_number : (copies which : ℕ) → which ≤ copies → which ≡ number_of copies which
own_number copies which within = sym (ap (number_if copies which) (le-ltb copies which within))

spare_number : (copies pair which : ℕ) → pair + 17 ≡ which → which ≡ number_of copies (copies + 1 + pair)
spare_number copies pair which is =
    let behind : nat_lt copies (copies + 1 + pair) ≡ true = lt-ltb copies (copies + 1 + pair) (omega arith) in
    let there : pair + 17 ≡ copies + 1 + pair - (copies + 1) + 17 = omega arith in
    sym is ∙ there ∙ sym (ap (number_if copies (copies + 1 + pair)) behind)

-- a disk of these pairs has a place
has_place : (copies which : ℕ) → IsAmong 0 copies which → (place : ℕ) × (which ≡ number_of copies place) × (place < all_places copies)
has_place copies which (inl own) = (which, own_number copies which own.1, omega (arith, own.1))
has_place copies which (inr spare) =
    let is : which - 17 + 17 ≡ which = omega (arith, spare.0) in
    (copies + 1 + (which - 17), spare_number copies (which - 17) which is, omega (arith, spare.0, spare.1))

module _ {D : Type 0} (view : D → DiskView) where
  -- where a disk that was mounted failed, its count has risen
  cause_of : (table : Table) (Tells : Past → Type 0) (pair : ℕ) (told spare_told : Option (List ℕ)) (is_spare : Bool) (Failed : Type 0) (old new : D) → IsMounted view table Tells pair told spare_told is_spare Failed old new → HasCause (view old).faults (view new).faults Failed
  cause_of table Tells zero told spare_told is_spare Failed old new mounted = mounted.cause
  cause_of table Tells (suc copy) told spare_told is_spare Failed old new mounted = mounted.cause

  -- the count of the disk that failed has risen, where it stands at this place
  failed_at : (table : Table) (told : ℕ → Option (List ℕ)) (counts : ℕ → ℕ) (which place at k : ℕ) (Behind : ℕ → Type 0) (given back : List D) → AreCounted view (by_place table.copies counts) at given
      → PairsFrom (IsLeft view table told (λ n. n ≡ which) Behind) at given back → which ≡ number_of table.copies place → at + k ≡ place → k < length back → (disk : D) × (slice_get back k ≡ Some disk) × Rose (counts which) (view disk).faults
  failed_at table told counts which place at k Behind given [] counted pairs is to there = absurd (omega arith)
  failed_at table told counts which place at k Behind [] (b ∷ back) counted pairs is to there = absurd pairs
  failed_at table told counts which place at zero Behind (d ∷ given) (b ∷ back) counted pairs is to there =
      let same : at ≡ place = omega arith in
      let here : number_of table.copies at ≡ which = ap (number_of table.copies) same ∙ sym is in
      (b, refl, subst (λ n. Rose n (view b).faults) (counted.0 ∙ ap counts here) ((cause_of table _ _ _ _ _ _ d b pairs.0.mounted).failed here))
  failed_at table told counts which place at (suc k) Behind (d ∷ given) (b ∷ back) counted pairs is to there = failed_at table told counts which place (at + 1) k Behind given back counted.1 pairs.1 is (omega arith) (omega arith)

  module _ (s : ScriptPlan) (shop : Shop) (place : List ℕ) (now : ℕ) where
    -- what a mounting answered, without and with want of memory in its place
    pub why : (refused : MountNo D) (disks : List D) (answer : Status) → disks ≡ disks_in refused → IsStatusOf refused answer
        → (IsNotGiven s.table.copies shop.faults now refused ⊎ IsNotMounted s.table.copies refused) → ComeBack view (shop.offers place) (shop.counts place) s.table refused
        → ((images : List (List ℕ)) → Offers s.table (shop.offers place) images → IsFaultOf s.table journal_limit images refused)
        → IsUnmounted view s shop place now disks answer
    why (no.Disk which kept) disks answer same (inl is) (inl given) back image =
        subst (IsUnmounted view s shop place now disks) (sym is) (inl (subst (λ (l : List D). which ≡ number_of s.table.copies (length l)) (sym same) given.0, given.2))
    why (no.Disk which kept) disks answer same (inl is) (inr mounted) back image =
        let all = mounted.all in
        let at = has_place s.table.copies which mounted.reason in
        let rose = failed_at s.table _ (shop.counts place) which at.0 0 at.0 _ back.given kept.items back.counted back.left at.1 (omega arith) (omega (arith, all, at.2)) in
        subst (IsUnmounted view s shop place now disks) (sym is) (inr (at.0, rose.0, at.1, subst (λ (l : List D). slice_get l at.0 ≡ Some rose.0) (sym same) rose.1, rose.2))
    why (no.Disk which kept) disks answer same (inr is) reason back image = subst (IsUnmounted view s shop place now disks) (sym is) tt
    why (no.Image fault kept) disks answer same (inl is) reason back image = subst (IsUnmounted view s shop place now disks) (sym is) image
    why (no.Image fault kept) disks answer same (inr is) reason back image = subst (IsUnmounted view s shop place now disks) (sym is) tt
    why (no.Memory kept) disks answer same is reason back image = subst (IsUnmounted view s shop place now disks) (sym is) tt
