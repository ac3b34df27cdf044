-- What the mounting of a copy's pair gives.
use Rattle.std.specs.Prelude.{ℕ, ◌≡◌, ◌+◌, ◌⊎◌, Bool, not, List, Option, IsSome, Result, Ok, Err}
use Rattle.qc_disk.specs.declared.disk.Disk.{Ghosts}
use Rattle.qc_event.specs.declared.table.Table.{Table}
use Rattle.qc_codec.specs.Fields.{current_format}
use Rattle.qc_codec.specs.declared.past.Past.{Past}
use Rattle.qc_journal.specs.Journal.{Keeps, disk_of}
use Rattle.qc_pair.specs.Fold.{own_disk, spare_disk, swapped_in}
use Rattle.qc_pair.specs.Opening.{active_told, HaveActive, IsMountNo, OpensFold}
use Rattle.qc_pair.specs.Pair.{number_at}
use Rattle.qc_pair.specs.declared.fault.PairNo.{PairNo}
use Rattle.qc_pair.specs.declared.fault.PairNo.TheVariants as no
use Rattle.qc_pair.specs.declared.fold.Fold.{Fold}
use Rattle.qc_pair.specs.declared.kind.Kind.TheVariants as kind
use Rattle.qc_site.specs.Image.{AreMountableAsCopy, IsCopyFault}
use Rattle.qc_site.specs.Mounted.{MountsCopy, journal_of, records_of}
use Rattle.qc_site.specs.Renewal.{IsRenewalFault, TellsNow, WasMountable}
use Rattle.qc_site.specs.declared.fault.SiteNo.{SiteNo}
use Rattle.qc_site.specs.declared.fault.SiteNo.TheVariants.{Disk, Image, Strange, Short}
use Rattle.qc_site.specs.declared.mounted.Mounted.{Mounted}

-- the disks of a copy that was mounted, or that were handed back
abbrev pub own_after : {D : Type 0} {g : Ghosts D} → Result (Mounted D g × Fold D g) (D × D × PairNo) → D
own_after (Ok mounted) = own_disk mounted.1 (disk_of (journal_of mounted.0))
own_after (Err refused) = refused.0

abbrev pub spare_after : {D : Type 0} {g : Ghosts D} → Result (Mounted D g × Fold D g) (D × D × PairNo) → D
spare_after (Ok mounted) = spare_disk mounted.1 (disk_of (journal_of mounted.0))
spare_after (Err refused) = refused.1

-- so of one that was found in a format
abbrev pub own_found : {D : Type 0} {g : Ghosts D} → Result (Mounted D g × Fold D g × ℕ) (D × D × PairNo) → D
own_found (Ok found) = own_disk found.1 (disk_of (journal_of found.0))
own_found (Err refused) = refused.0

abbrev pub spare_found : {D : Type 0} {g : Ghosts D} → Result (Mounted D g × Fold D g × ℕ) (D × D × PairNo) → D
spare_found (Ok found) = spare_disk found.1 (disk_of (journal_of found.0))
spare_found (Err refused) = refused.1

-- Over a pair that told this a copy was mounted by its active disk, whose bodies have a format. From now on each image of that
-- one has the records, and the other keeps what it had.
pub record FindsCopyPair {D : Type 0} {g : Ghosts D} (copy : ℕ) (table : Table) (past : Past) (limit format : ℕ) (told spare_told : Option (List ℕ)) (mounted : Mounted D g) (fold : Fold D g) : Type 0 where
  pub mounts : MountsCopy (number_at (swapped_in fold) (copy + 1)) table past limit format (active_told kind.Copy (copy + 1) told spare_told (swapped_in fold)) (records_of mounted)
  pub opens : OpensFold kind.Copy (copy + 1) told spare_told fold mounts.found
  pub keeps : IsSome (active_told kind.Copy (copy + 1) told spare_told (swapped_in fold)) → Keeps (journal_of mounted) (records_of mounted)

-- A pair was mounted as a copy's, in the current format: it was in that, or was folded first.
pub record MountsCopyPair {D : Type 0} {g : Ghosts D} (copy : ℕ) (table : Table) (past : Past) (limit : ℕ) (told spare_told : Option (List ℕ)) (mounted : Mounted D g) (fold : Fold D g) : Type 0 where
  pub now : Option (List ℕ)
  pub spare_now : Option (List ℕ)
  pub tells : TellsNow copy table told spare_told past now spare_now
  pub was : WasMountable table past limit copy told spare_told
  pub finds : FindsCopyPair copy table past limit current_format now spare_now mounted fold

-- the active bodies of a pair do not fit the other disk, into which they are folded
abbrev pub IsRenewalNo : ℕ → Table → Past → ℕ → Option (List ℕ) → Option (List ℕ) → PairNo → Type 0
IsRenewalNo copy table past limit told spare_told (no.Disk n) = ⊥
IsRenewalNo copy table past limit told spare_told (no.Image bad) = (is_spare : Bool) × (found : List (List ℕ)) × HaveActive kind.Copy (copy + 1) told spare_told is_spare found
    × (IsSome (active_told kind.Copy (copy + 1) told spare_told is_spare) → AreMountableAsCopy (number_at is_spare (copy + 1)) table past limit found)
    × (bad.disk ≡ number_at (not is_spare) (copy + 1)) × IsRenewalFault table past limit bad.disk found bad.fault
IsRenewalNo copy table past limit told spare_told no.Memory = ⊥

-- a mounting may be refused: for the pair's first fault
abbrev pub IsCopyPairNo : ℕ → Table → Past → ℕ → Option (List ℕ) → Option (List ℕ) → PairNo → Type 0
IsCopyPairNo copy table past limit told spare_told refusal = IsMountNo kind.Copy (copy + 1) told spare_told (λ disk bodies fault. IsCopyFault disk table past limit bodies fault) refusal
    ⊎ IsRenewalNo copy table past limit told spare_told refusal

-- what a refusal over a disk is to the mounting of its pair
abbrev pub pair_no : ℕ → SiteNo → PairNo
pair_no disk Disk = no.Disk disk
pair_no disk (Image bad) = no.Image bad
pair_no disk Strange = no.Memory
pair_no disk (Short short) = no.Memory
