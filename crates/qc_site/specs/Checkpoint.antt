-- What a checkpoint of a copy says.
use Rattle.std.specs.Prelude.{ℕ, ◌≡◌, ◌<◌, ◌≤◌, ◌+◌, ◌^◌, ◌⊎◌, true, not, List, Result, IsErrOf}
use Rattle.qc_config.specs.declared.tuple.Tuple.{Tuple}
use Rattle.qc_disk.specs.Disk.{CountsOnce, Rose}
use Rattle.qc_disk.specs.declared.disk.Disk.{Ghosts}
use Rattle.qc_event.specs.Wants.{IsWant}
use Rattle.qc_codec.specs.declared.image.ImageFault.{ImageFault}
use Rattle.qc_codec.specs.declared.image.ImageFault.TheVariants.{Full}
use Rattle.qc_desk.specs.Held.{held_row}
use Rattle.qc_event.specs.declared.short.Short.TheVariants.{Memory, Room}
use Rattle.qc_journal.specs.Journal.{disk_of}
use Rattle.qc_journal.specs.declared.fault.Fault.{Fault}
use Rattle.qc_journal.specs.declared.fault.Fault.TheVariants as fault
use Rattle.qc_journal.specs.declared.journal.Journal.{Journal}
use Rattle.qc_pair.specs.Fold.{active_number, swapped_in, IsFullFor}
use Rattle.qc_pair.specs.Pair.{number_at}
use Rattle.qc_pair.specs.declared.fold.Fold.{Fold}
use Rattle.qc_site.specs.Calls.{SiteState}
use Rattle.qc_site.specs.Replica.{Standing}
use Rattle.qc_site.specs.declared.fault.SiteNo.{SiteNo}
use Rattle.qc_site.specs.declared.fault.SiteNo.TheVariants as no

-- what a copy that started with these tuples holds of each record, by what it has seen
abbrev pub held_by : List Tuple → ℕ → Standing → List Tuple
held_by start copy standing = held_row start standing.pass.seen copy

-- there is no room at the place that a fault tells
abbrev pub IsFullBy : {D : Type 0} {g : Ghosts D} → Fold D g → List Tuple → ImageFault → Type 0
IsFullBy fold tuples (Full place) = IsFullFor fold tuples place
IsFullBy fold tuples _ = ⊥

-- what a fault of a fold is to a checkpoint, which folds into the disk of this number
abbrev pub fold_no : ℕ → Fault → SiteNo
fold_no disk fault.Disk = no.Disk
fold_no disk (fault.Broken place) = no.Disk
fold_no disk (fault.Full place) = no.Image (record { disk = disk; fault = Full place })
fold_no disk fault.Memory = no.Short Memory

-- the fold of a checkpoint may be refused for this
abbrev pub IsFoldRefusal : {D : Type 0} {g : Ghosts D} → ℕ → Fold D g → List Tuple → SiteNo → Type 0
IsFoldRefusal copy fold tuples no.Disk = Unit {0}
IsFoldRefusal copy fold tuples (no.Image bad) = (bad.disk ≡ number_at (not (swapped_in fold)) (copy + 1)) × IsFullBy fold tuples bad.fault
IsFoldRefusal copy fold tuples no.Strange = ⊥
IsFoldRefusal copy fold tuples (no.Short short) = short ≡ Memory

-- what a refused checkpoint says: which disk is full, that the copy is strange, or what was wanting
abbrev pub CheckpointSays : {D : Type 0} {g : Ghosts D} → ℕ → Fold D g → List Tuple → SiteState g → SiteNo → Type 0
CheckpointSays copy fold tuples new no.Disk = Unit {0}
CheckpointSays copy fold tuples new (no.Image bad) = (bad.disk ≡ number_at (not (swapped_in fold)) (copy + 1)) × IsFullBy fold tuples bad.fault
CheckpointSays copy fold tuples new no.Strange = new.strange ≡ true
CheckpointSays copy fold tuples new (no.Short short) = IsWant new.replica.pass.seen short

-- A checkpoint did not come to the other journal: the copy is strange, the history takes no more entries, the count of faults of
-- its own disk rose, or the last number was used up. A count at the end of its range does not tell.
abbrev pub IsSpared : {D T : Type 0} {g : Ghosts D} → Fold D g → Journal D g → Journal D g → Result T SiteNo → Type 0
IsSpared {g = g} fold own own' result = IsErrOf result no.Strange ⊎ IsErrOf result (no.Short Room)
    ⊎ ((g.view (disk_of own)).faults < (g.view (disk_of own')).faults) ⊎ (2 ^ 63 ≤ active_number fold)

-- Two disks are called: where this failed the count of one rose, each rises by one at most, and only where this failed.
pub record CostsEither {D : Type 0} {g : Ghosts D} (own own' other other' : Journal D g) (Failed : Type 0) : Type 0 where
  pub later : (g.view (disk_of own)).faults ≤ (g.view (disk_of own')).faults
  pub later_other : (g.view (disk_of other)).faults ≤ (g.view (disk_of other')).faults
  pub either : Failed → Rose (g.view (disk_of own)).faults (g.view (disk_of own')).faults ⊎ Rose (g.view (disk_of other)).faults (g.view (disk_of other')).faults
  pub counts : CountsOnce (g.view (disk_of own)).faults (g.view (disk_of own')).faults Failed
  pub counts_other : CountsOnce (g.view (disk_of other)).faults (g.view (disk_of other')).faults Failed
