-- Pairs that were mounted have no fault.
use Rattle.std.proofs.Common.{◌≡◌, ℕ, ◌+◌, List, subst, sym, add-one}
use Rattle.std.specs.Prelude.{Bool, true, false, if◌then◌else◌, Option, Some, IfSome}
use Rattle.qc_codec.specs.declared.past.Past.{Past}
use Rattle.qc_disk.specs.Disk.{DiskView}
use Rattle.qc_event.specs.declared.table.Table.{Table}
use Rattle.qc_site.specs.Renewal.{MountsCopyHalf}
use Rattle.qc_opening.specs.Disks.{IsMounted}
use Rattle.qc_opening.specs.Images.{IsSoundPair}
use Rattle.qc_pair.specs.Opening.{active_told, HaveActive}
use Rattle.qc_pair.specs.declared.kind.Kind.{Kind}

module _ (kind : Kind) (pair : ℕ) (told spare_told : Option (List ℕ)) (own spare : List ℕ) (tells : told ≡ Some own) (spare_tells : spare_told ≡ Some spare) where
  -- what holds where the active disk tells its bytes
  pub told_fine : (is_spare : Bool) (P : List ℕ → Type 0) → IfSome (active_told kind pair told spare_told is_spare) P → P (if is_spare then spare else own)
  told_fine true P fine = subst (λ o. IfSome o P) spare_tells fine
  told_fine false P fine = subst (λ o. IfSome o P) tells fine

  -- what a pair told has no fault
  pub sound_pair : (is_spare : Bool) (found : List (List ℕ)) (Fine : Bool → List (List ℕ) → Type 0) → HaveActive kind pair told spare_told is_spare found → Fine is_spare found → IsSoundPair kind pair Fine (own, spare)
  sound_pair is_spare found Fine have fine = record {
    is_spare = is_spare;
    found = found;
    have = subst (λ o. HaveActive kind pair o (Some spare) is_spare found) tells (subst (λ o. HaveActive kind pair told o is_spare found) spare_tells have);
    fine = fine;
  }

-- pair `copy + 1` is a copy's
pub copy_half : {D : Type 0} (view : D → DiskView) (table : Table) (Tells : Past → Type 0) (copy : ℕ) (told spare_told : Option (List ℕ)) (is_spare : Bool) (Failed : Type 0) (old new : D)
    → MountsCopyHalf copy table told spare_told Tells is_spare view Failed old new → IsMounted view table Tells (copy + 1) told spare_told is_spare Failed old new
copy_half view table Tells copy told spare_told is_spare Failed old new is = subst (λ n. IsMounted view table Tells n told spare_told is_spare Failed old new) (sym (add-one copy)) is
