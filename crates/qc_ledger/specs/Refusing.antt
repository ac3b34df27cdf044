-- Why a mounting is refused.
use Rattle.std.specs.Prelude.{ℕ, ◌≡◌}
use Rattle.qc_codec.specs.declared.image.ImageFault.{ImageFault}
use Rattle.qc_codec.specs.declared.image.ImageFault.TheVariants as image
use Rattle.qc_event.specs.declared.short.Short.TheVariants.{Memory, Room}
use Rattle.qc_journal.specs.declared.fault.Fault.{Fault}
use Rattle.qc_journal.specs.declared.fault.Fault.TheVariants as fault
use Rattle.qc_ledger.specs.declared.fault.LedgerNo.{LedgerNo}
use Rattle.qc_ledger.specs.declared.fault.LedgerNo.TheVariants.{Disk, Image, Full, Short}

-- for want of memory or of room
abbrev pub IsWantNo : LedgerNo → Type 0
IsWantNo (Short short) = Unit {0}
IsWantNo _ = ⊥

-- there may have been two faults of the disk: it is told, or memory or room was wanting to enter it
abbrev pub MayCostTwo : LedgerNo → Type 0
MayCostTwo Disk = Unit {0}
MayCostTwo (Short short) = Unit {0}
MayCostTwo _ = ⊥

module _ (disk : ℕ) where
  -- the image of a disk of the ledger's is refused
  abbrev pub image_no : ImageFault → LedgerNo
  image_no f = Image (record { disk = disk; fault = f })

  -- what a fault of the journal is to a mounting
  abbrev pub ledger_mount_no : Fault → LedgerNo
  ledger_mount_no fault.Disk = Disk
  ledger_mount_no (fault.Broken place) = image_no (image.Broken place)
  ledger_mount_no (fault.Full place) = image_no (image.Full place)
  ledger_mount_no fault.Memory = Short Memory

  -- a fault of the disk's image, of which this holds; or of the disk or the memory
  abbrev pub IsOfLedgerImage : (ImageFault → Type 0) → LedgerNo → Type 0
  IsOfLedgerImage P Disk = Unit {0}
  IsOfLedgerImage P (Image bad) = (bad.disk ≡ disk) × P bad.fault
  IsOfLedgerImage P (Full place) = ⊥
  IsOfLedgerImage P (Short Memory) = Unit {0}
  IsOfLedgerImage P (Short Room) = ⊥

  -- a fault of the disk's image, of which this holds; or of the memory
  abbrev pub IsOfBytes : (ImageFault → Type 0) → LedgerNo → Type 0
  IsOfBytes P Disk = ⊥
  IsOfBytes P (Image bad) = (bad.disk ≡ disk) × P bad.fault
  IsOfBytes P (Full place) = ⊥
  IsOfBytes P (Short Memory) = Unit {0}
  IsOfBytes P (Short Room) = ⊥

-- what a fault of the journal is to a logging
abbrev pub log_no : Fault → LedgerNo
log_no fault.Disk = Disk
log_no (fault.Broken place) = Disk
log_no (fault.Full place) = Full place
log_no fault.Memory = Short Memory

-- a fault of the disk, of want of room or of the memory
abbrev pub IsOfWriting : Fault → Type 0
IsOfWriting fault.Disk = Unit {0}
IsOfWriting (fault.Broken place) = ⊥
IsOfWriting (fault.Full place) = Unit {0}
IsOfWriting fault.Memory = Unit {0}

-- a checkpoint may be refused: by the disk, for want of room on it, or for memory
abbrev pub IsCheckpointNo : LedgerNo → Type 0
IsCheckpointNo Disk = Unit {0}
IsCheckpointNo (Image bad) = ⊥
IsCheckpointNo (Full place) = Unit {0}
IsCheckpointNo (Short Memory) = Unit {0}
IsCheckpointNo (Short Room) = ⊥
