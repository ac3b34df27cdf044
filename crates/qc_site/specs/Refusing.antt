-- Why a mounting is refused.
use Rattle.std.specs.Prelude.{ℕ, ◌≡◌}
use Rattle.qc_codec.specs.declared.image.ImageFault.{ImageFault}
use Rattle.qc_codec.specs.declared.image.ImageFault.TheVariants as image
use Rattle.qc_event.specs.declared.short.Short.TheVariants.{Memory, Room}
use Rattle.qc_journal.specs.declared.fault.Fault.{Fault}
use Rattle.qc_journal.specs.declared.fault.Fault.TheVariants as fault
use Rattle.qc_site.specs.declared.fault.SiteNo.{SiteNo}
use Rattle.qc_site.specs.declared.fault.SiteNo.TheVariants.{Disk, Image, Strange, Short}

module _ (disk : ℕ) where
  -- the image of a disk of a copy's is refused
  abbrev pub image_no : ImageFault → SiteNo
  image_no f = Image (record { disk = disk; fault = f })

  -- what a fault of the journal is to a mounting
  abbrev pub copy_mount_no : Fault → SiteNo
  copy_mount_no fault.Disk = Disk
  copy_mount_no (fault.Broken place) = image_no (image.Broken place)
  copy_mount_no (fault.Full place) = image_no (image.Full place)
  copy_mount_no fault.Memory = Short Memory

  -- a fault of the disk's image, of which this holds; or of the disk or the memory
  abbrev pub IsOfCopyImage : (ImageFault → Type 0) → SiteNo → Type 0
  IsOfCopyImage P Disk = Unit {0}
  IsOfCopyImage P (Image bad) = (bad.disk ≡ disk) × P bad.fault
  IsOfCopyImage P Strange = ⊥
  IsOfCopyImage P (Short Memory) = Unit {0}
  IsOfCopyImage P (Short Room) = ⊥

  -- a fault of the disk's image, of which this holds; or of the memory
  abbrev pub IsOfBytes : (ImageFault → Type 0) → SiteNo → Type 0
  IsOfBytes P Disk = ⊥
  IsOfBytes P (Image bad) = (bad.disk ≡ disk) × P bad.fault
  IsOfBytes P Strange = ⊥
  IsOfBytes P (Short Memory) = Unit {0}
  IsOfBytes P (Short Room) = ⊥
