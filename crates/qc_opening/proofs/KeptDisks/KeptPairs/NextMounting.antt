-- What the next mounting over the images of a store's pairs starts from: what they restore, and where no grant stands on them the
-- start tuples of the table.
use Rattle.std.proofs.Common.{◌≡◌, ℕ, ◌+◌, ◌<◌, ◌⊎◌, Bool, true, false, List, [], length, get_or, refl, sym, ap, ◌∙◌, subst, arith}
use Rattle.std.specs.Prelude.{if◌then◌else◌, map, Option, Some, IfSome, IsSome}
use Rattle.qc_codec.specs.Fields.{current_format}
use Rattle.qc_config.specs.Val.{Datum}
use Rattle.qc_config.specs.declared.tuple.Tuple.{Tuple}
use Rattle.qc_event.specs.declared.table.Table.{Table}
use Rattle.qc_event.specs.History.{Past}
use Rattle.qc_event.specs.Legal.{Legal}
use Rattle.qc_event.specs.Sound.{IsSound}
use Rattle.qc_event.specs.Tables.{base_of, first_tuple, setting_of}
use Rattle.qc_journal.specs.Image.{HasRecords}
use Rattle.qc_ledger.specs.Mounted.{MountsLedger}
use Rattle.qc_opening.specs.Mountings.{CarryNext, HaveNoGrantsOn, MountedOn}
use Rattle.qc_opening.specs.Pairs.{AreLeftInPairs, HaveNoGrantsInPairs, MountedInPairs, active_images, active_number, of_active}
use Rattle.qc_opening.proofs.KeptDisks.KeptPairs.ActiveDisks.{HasActive, active_at, active_many, told_active}
use Rattle.qc_opening.proofs.KeptDisks.KeptPairs.CutOffPairs.{left_many, left_restored}
use Rattle.qc_opening.proofs.KeptDisks.Restarts as disks
use Rattle.qc_pair.specs.Pair.{number_at}
use Rattle.qc_pair.specs.declared.kind.Kind.TheVariants as kind
use Rattle.qc_refine.specs.Images.{IsCopyImage}
use Rattle.qc_refine.specs.Pairs.{RestoreInPairs, StandInPairs, image_of, spare_image}
use Rattle.qc_refine.proofs.Restoring.Actives.{AreActive}
use Rattle.qc_refine.proofs.Restoring.ActiveImages.{active_restore}
use Rattle.qc_refine.proofs.Restoring.PairImages.{pairs_carry_final, pairs_restore_one, pairs_restore_some}
use Rattle.qc_site.specs.Mounted.{MountsCopy}

-- the mounting of disks that told this
mounted_as : (disk : ℕ → ℕ) (table : Table) (told other : ℕ → Option (List ℕ)) (records : ℕ → List (List ℕ)) (epoch : ℕ) (base : List (List Tuple)) → ((pair : ℕ) → pair < table.copies + 1 → told pair ≡ other pair) → MountedOn disk table told records epoch base
    → MountedOn disk table other records epoch base
mounted_as disk table told other records epoch base same m = record {
  past = m.past;
  limit = m.limit;
  proper = m.proper;
  small = m.small;
  bytes = m.bytes;
  ledger = subst (λ o. MountsLedger (disk 0) table (m.limit 0) o (records 0) m.past epoch) (same 0 (omega arith)) m.ledger;
  copies = λ copy there. subst (λ o. MountsCopy (disk (copy + 1)) table m.past (m.limit (copy + 1)) current_format o (records (copy + 1))) (same (copy + 1) (omega (arith, there))) (m.copies copy there);
  as_many = m.as_many;
  starts = m.starts;
}

-- THE NEXT MOUNTING

module _ (table : Table) (images : List (List ℕ)) (records : ℕ → List (List ℕ)) (epoch : ℕ) (base : List (List Tuple)) (m : MountedInPairs table (λ place. Some (get_or images place [])) records epoch base)
    (as_many : length images ≡ table.copies + 1 + (table.copies + 1)) where
  abbrev actives : List (List ℕ)
  actives = active_images table m.swapped images

  active_is : (pair : ℕ) → pair < table.copies + 1 → get_or actives pair [] ≡ of_active table m.swapped (image_of table images) pair
  active_is = active_at table m.swapped images

  -- what was mounted are the active images
  are_active : AreActive table (active_number m.swapped) images actives
  are_active = record {
    as_many = as_many;
    ledger = subst (λ image. HasActive kind.Ledger 0 (m.swapped 0) image (image_of table images 0) (spare_image table images 0)) (sym (active_is 0 (omega arith)))
        (told_active kind.Ledger 0 (image_of table images 0) (spare_image table images 0) (m.swapped 0) m.mounted.ledger.found m.ledger);
    copies = λ copy there. subst (λ image. HasActive kind.Copy (copy + 1) (m.swapped (copy + 1)) image (image_of table images (copy + 1)) (spare_image table images (copy + 1))) (sym (active_is (copy + 1) (omega (arith, there))))
        (told_active kind.Copy (copy + 1) (image_of table images (copy + 1)) (spare_image table images (copy + 1)) (m.swapped (copy + 1)) (m.mounted.copies copy there).found (m.copies copy there));
  }

  told_is : (pair : ℕ) → pair < table.copies + 1 → of_active table m.swapped (λ place. Some (get_or images place [])) pair ≡ Some (get_or actives pair [])
  told_is pair there = picked (m.swapped pair) ∙ ap Some (sym (active_is pair there))
    where
      picked : (b : Bool) → (if b then Some (get_or images (table.copies + 1 + pair) []) else Some (get_or images pair [])) ≡ Some (if b then get_or images (table.copies + 1 + pair) [] else get_or images pair [])
      picked true = refl
      picked false = refl

  -- what the copies start with is what the images restore
  pub restores : RestoreInPairs table images base
  restores =
      active_restore table (active_number m.swapped) images actives are_active base
      (disks.restores (active_number m.swapped) table actives records epoch base
      (mounted_as (active_number m.swapped) table (of_active table m.swapped (λ place. Some (get_or images place []))) (λ pair. Some (get_or actives pair [])) records epoch base told_is m.mounted)
      (active_many table m.swapped images))

-- what images restore that stand beside a history carries the serial machine's values after it, and after tops whose commits may
-- come next
standing_carry : (table : Table) (base : List (List Tuple)) (epoch : ℕ) (past : Past) (images : List (List ℕ)) (values : List Datum) (tuples : List (List Tuple))
    → StandInPairs table base epoch past images → Legal (setting_of table base) past → IsSound (setting_of table base) values → RestoreInPairs table images tuples → CarryNext table values past tuples
standing_carry table base epoch past images values tuples s legal sound restored =
    record { more = s.beside.more; next = s.beside.next; carry = pairs_carry_final table images base epoch past s tuples restored values legal sound }

-- so does what other images restore that restore the same
pub alike_carry : (table : Table) (base : List (List Tuple)) (epoch : ℕ) (past : Past) (standing images : List (List ℕ)) (values : List Datum) (tuples start : List (List Tuple))
    → StandInPairs table base epoch past standing → Legal (setting_of table base) past → IsSound (setting_of table base) values → RestoreInPairs table standing tuples → RestoreInPairs table images tuples → RestoreInPairs table images start
    → CarryNext table values past start
alike_carry table base epoch past standing images values tuples start s legal sound restored same now =
    subst (CarryNext table values past) (pairs_restore_one table images tuples start same now) (standing_carry table base epoch past standing values tuples s legal sound restored)

-- the next mounting that is not cut off starts with such tuples
pub restart : (table : Table) (base : List (List Tuple)) (epoch : ℕ) (past : Past) (images last : List (List ℕ)) (later : List (List (List ℕ))) (values : List Datum) (records : ℕ → List (List ℕ)) (later_epoch : ℕ) (later_base : List (List Tuple))
    → StandInPairs table base epoch past images → Legal (setting_of table base) past → IsSound (setting_of table base) values → AreLeftInPairs table images later last
    → MountedInPairs table (λ place. Some (get_or last place [])) records later_epoch later_base → CarryNext table values past later_base
restart table base epoch past images last later values records later_epoch later_base s legal sound left mounted =
    let (tuples, restored) = pairs_restore_some table images base epoch past s in
    let same : tuples ≡ later_base = pairs_restore_one table last tuples later_base (left_restored table images last later left tuples restored)
    (restores table last records later_epoch later_base mounted (left_many table images last later s.as_many left)) in
    subst (CarryNext table values past) same (standing_carry table base epoch past images values tuples s legal sound restored)

-- THE FIRST MOUNTING

module _ (table : Table) (told : ℕ → Option (List ℕ)) (records : ℕ → List (List ℕ)) (epoch : ℕ) (base : List (List Tuple)) (m : MountedInPairs table told records epoch base) (none : HaveNoGrantsInPairs table told) where
  -- on no active disk of a copy's stands a grant
  none_active : HaveNoGrantsOn (active_number m.swapped) table (of_active table m.swapped told)
  none_active copy there = picked (m.swapped (copy + 1))
    where
      picked : (b : Bool) → let o = if b then told (table.copies + 1 + (copy + 1)) else told (copy + 1) in IsSome o × IfSome o (λ image. HasRecords [] image ⊎ IsCopyImage table (map first_tuple table.records) [] (number_at b (copy + 1)) image)
      picked true = none.1 copy there
      picked false = none.0 copy there

  -- where no grant stands, the copies start with the table's start tuples
  pub first_start : base ≡ base_of table
  first_start = disks.first_start (active_number m.swapped) table (of_active table m.swapped told) records epoch base m.mounted none_active
