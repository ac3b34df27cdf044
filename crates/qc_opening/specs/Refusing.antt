-- Why a store is not mounted, and what then is with its disks.
use Rattle.std.specs.Prelude.{ℕ, ◌≡◌, ◌+◌, ◌-◌, ◌<◌, ◌≤◌, ◌⊎◌, if◌then◌else◌, nat_lt, List, length, map, Option, Some}
use Rattle.qc_disk.specs.Disk.{DiskView}
use Rattle.qc_event.specs.declared.table.Table.{Table}
use Rattle.qc_codec.specs.declared.image.BadImage.{BadImage}
use Rattle.qc_codec.specs.declared.past.Past.{Past}
use Rattle.qc_opening.specs.Disks.{all_places, by_place, told_by, AreCounted, AreOffered, IsLeft, IsPairLeft}
use Rattle.qc_opening.specs.Images.{IsFirstFault}
use Rattle.qc_opening.specs.Numbered.{PairsFrom}
use Rattle.qc_opening.specs.declared.mount_no.MountNo.{MountNo}
use Rattle.qc_opening.specs.declared.mount_no.MountNo.TheVariants as no
use Rattle.qc_pair.specs.declared.fault.PairNo.{PairNo}
use Rattle.qc_pair.specs.declared.fault.PairNo.TheVariants.{Disk, Image, Memory}

-- the disks that are handed back
abbrev pub disks_in : {D : Type 0} → MountNo D → List D
disks_in (no.Disk which disks) = disks.items
disks_in (no.Image fault disks) = disks.items
disks_in (no.Memory disks) = disks.items

-- the reason without the disks
abbrev pub reason_in : {D : Type 0} → MountNo D → PairNo
reason_in (no.Disk which disks) = Disk which
reason_in (no.Image fault disks) = Image fault
reason_in (no.Memory disks) = Memory

-- of which pair the disk of a number is
abbrev pub pair_of : ℕ → ℕ
pair_of number = if nat_lt 16 number then number - 17 else number

-- the disk of this number failed
abbrev pub FailedAt : PairNo → ℕ → Type 0
FailedAt (Disk which) number = number ≡ which
FailedAt _ number = ⊥

-- this pair was not reached
abbrev pub IsBehind : PairNo → ℕ → Type 0
IsBehind (Disk which) pair = pair_of which < pair
IsBehind (Image bad) pair = pair_of bad.disk < pair
IsBehind Memory pair = ⊥

-- the disk of this number is one of these pairs'
abbrev pub IsAmong : ℕ → ℕ → ℕ → Type 0
IsAmong least most number = ((least ≤ number) × (number ≤ most)) ⊎ ((least + 17 ≤ number) × (number ≤ most + 17))

-- a disk of these pairs failed, or an image of theirs has a fault of which this holds, or there was no memory
abbrev pub IsReasonAmong : ℕ → ℕ → (BadImage → Type 0) → PairNo → Type 0
IsReasonAmong least most P (Disk which) = IsAmong least most which
IsReasonAmong least most P (Image bad) = IsAmong least most bad.disk × P bad
IsReasonAmong least most P Memory = Unit {0}

module _ {D : Type 0} (view : D → DiskView) where
  -- pairs of disks from one on are left by a mounting, behind a past of which this holds, that was refused for this reason
  abbrev pub ArePairsLeft : Table → (Past → Type 0) → PairNo → ℕ → List (D × D) → List (D × D) → Type 0
  ArePairsLeft table Tells reason pair old new = PairsFrom (IsPairLeft view table Tells (FailedAt reason) (IsBehind reason)) pair old new

  -- so are all disks of a store, one at each place
  abbrev pub AreLeft : Table → PairNo → List D → List D → Type 0
  AreLeft table reason old new = PairsFrom (IsLeft view table (told_by (map (λ disk. (view disk).content) old)) (FailedAt reason) (IsBehind reason)) 0 old new

  -- these disks tell these images
  abbrev pub TellImages : List D → List (List ℕ) → Type 0
  TellImages disks images = map (λ disk. (view disk).content) disks ≡ map Some images

  -- these pairs of disks tell these images
  abbrev pub TellInPairs : List (D × D) → List (List ℕ × List ℕ) → Type 0
  TellInPairs pairs images = map {B = Option (List ℕ) × Option (List ℕ)} (λ disks. ((view disks.0).content, (view disks.1).content)) pairs ≡ map (λ both. (Some both.0, Some both.1)) images

  -- The disks that were given come back, in the order of their places and as they are left. Where not all of them were
  -- given, none was mounted.
  pub record ComeBack (offers : ℕ → Option (List ℕ)) (counts : ℕ → ℕ) (table : Table) (refused : MountNo D) : Type 0 where
    pub given : List D
    pub offered : AreOffered view (by_place table.copies offers) 0 given
    pub counted : AreCounted view (by_place table.copies counts) 0 given
    pub left : AreLeft table (reason_in refused) given (disks_in refused)
    pub not_all : length given < all_places table.copies → disks_in refused ≡ given

-- All disks of so many copies were given, and one of them failed, or has the first fault of the images, or there was no
-- memory.
pub record IsNotMounted {D : Type 0} (copies : ℕ) (refused : MountNo D) : Type 0 where
  pub all : length (disks_in refused) ≡ all_places copies
  pub reason : IsReasonAmong 0 copies (λ bad. Unit {0}) (reason_in refused)

-- a fault of an image of a store is the first that its images have
abbrev pub IsFaultOf : {D : Type 0} → Table → ℕ → List (List ℕ) → MountNo D → Type 0
IsFaultOf table limit images (no.Image fault disks) = IsFirstFault table limit fault images
IsFaultOf table limit images _ = Unit {0}
