-- What the pairs of disks tell since they were mounted as copies.
use Rattle.std.proofs.Common.{◌≡◌, ℕ, zero, suc, ◌+◌, List, [], ◌∷◌, length, refl, sym, ap, subst, arith}
use Rattle.std.specs.Prelude.{Option, Some, slice_get}
use Rattle.qc_codec.specs.declared.past.Past.{Past}
use Rattle.qc_disk.specs.declared.disk.Disk.{Ghosts}
use Rattle.qc_event.specs.declared.table.Table.{Table}
use Rattle.qc_opening.specs.Mounted.{IsCopy}
use Rattle.qc_opening.specs.Numbered.{PairsFrom}
use Rattle.qc_site.specs.Renewal.{TellsNow}
use Rattle.qc_system.specs.declared.parts.CopyPair.{CopyPair}

-- a copy's pair tells the same since its mounting began to write
pub tells_as : (copy : ℕ) (table : Table) (past : Past) (told told' spare_told spare_told' now now' spare_now spare_now' : Option (List ℕ)) → told' ≡ told → spare_told' ≡ spare_told → now' ≡ now → spare_now' ≡ spare_now
    → TellsNow copy table told spare_told past now spare_now → TellsNow copy table told' spare_told' past now' spare_now'
tells_as copy table past told told' spare_told spare_told' now now' spare_now spare_now' of_told of_spare of_now of_spare_now tells =
    subst (λ o. TellsNow copy table o spare_told' past now' spare_now') (sym of_told)
    (subst (λ o. TellsNow copy table told o past now' spare_now') (sym of_spare)
    (subst (λ o. TellsNow copy table told spare_told past o spare_now') (sym of_now)
    (subst (λ o. TellsNow copy table told spare_told past now o) (sym of_spare_now) tells)))

-- what a disk and its spare tell
abbrev pub Both : Type 0
Both = Option (List ℕ) × Option (List ℕ)

module _ {D : Type 0} {g : Ghosts D} (table : Table) (past : Past) (epoch limit : ℕ) where
  -- what pairs tell since then that were mounted as copies
  abbrev pub copies_now : (number : ℕ) (disks : List (D × D)) (copies : List (CopyPair D g)) → PairsFrom (IsCopy table past epoch limit) number disks copies → List Both
  copies_now number [] [] are = []
  copies_now number [] (m ∷ copies) are = absurd are
  copies_now number (d ∷ disks) [] are = absurd are
  copies_now number (d ∷ disks) (m ∷ copies) are = (are.0.mounts.now, are.0.mounts.spare_now) ∷ copies_now (number + 1) disks copies are.1

  pub copies_now_many : (number : ℕ) (disks : List (D × D)) (copies : List (CopyPair D g)) (are : PairsFrom (IsCopy table past epoch limit) number disks copies) → length (copies_now number disks copies are) ≡ length copies
  copies_now_many number [] [] are = refl
  copies_now_many number [] (m ∷ copies) are = absurd are
  copies_now_many number (d ∷ disks) [] are = absurd are
  copies_now_many number (d ∷ disks) (m ∷ copies) are = ap suc (copies_now_many (number + 1) disks copies are.1)

  -- a copy was mounted from disks that tell this now
  abbrev pub IsCopyNow : ℕ → D × D → Both → CopyPair D g → Type 0
  IsCopyNow number disks now pair = (is : IsCopy table past epoch limit number disks pair) × ((is.mounts.now, is.mounts.spare_now) ≡ now)

  -- the pair at a place, and what it tells
  pub copy_now : (number : ℕ) (disks : List (D × D)) (copies : List (CopyPair D g)) (are : PairsFrom (IsCopy table past epoch limit) number disks copies) (i : ℕ) (pair : CopyPair D g) → slice_get copies i ≡ Some pair
      → (d : D × D) × (slice_get disks i ≡ Some d) × (now : Both) × (slice_get (copies_now number disks copies are) i ≡ Some now) × IsCopyNow (number + i) d now pair
  copy_now number [] [] are i pair is = absurd cc
  copy_now number [] (m ∷ copies) are i pair is = absurd are
  copy_now number (d ∷ disks) [] are i pair is = absurd are
  copy_now number (d ∷ disks) (m ∷ copies) are zero pair is =
      let same : m ≡ pair = cc in
      let now : Both = (are.0.mounts.now, are.0.mounts.spare_now) in
      (d, refl, now, refl, subst (λ n. IsCopyNow n d now pair) (omega arith) (subst (IsCopyNow number d now) same (are.0, refl)))
  copy_now number (d ∷ disks) (m ∷ copies) are (suc i) pair is =
      let (found, there, now, tells, has) = copy_now (number + 1) disks copies are.1 i pair is in
      (found, there, now, tells, subst (λ n. IsCopyNow n found now pair) (omega arith) has)
