-- Which faults a call may have.
use Rattle.qc_disk.specs.declared.disk.DiskNo.{DiskNo}
use Rattle.qc_disk.specs.declared.disk.DiskNo.TheVariants as no
use Rattle.qc_journal.specs.declared.fault.Fault.{Fault}
use Rattle.qc_journal.specs.declared.fault.Fault.TheVariants.{Disk, Broken, Full, Memory}

-- the fault that an error of a disk is
abbrev pub fault_of : DiskNo → Fault
fault_of no.Failed = Disk
fault_of no.Memory = Memory

-- a fault of the disk or of the memory
abbrev pub IsOfDevice : Fault → Type 0
IsOfDevice Disk = Unit {0}
IsOfDevice (Broken place) = ⊥
IsOfDevice (Full place) = ⊥
IsOfDevice Memory = Unit {0}

-- a fault of bytes or of the memory
abbrev pub IsOfBytes : Fault → Type 0
IsOfBytes Disk = ⊥
IsOfBytes (Broken place) = Unit {0}
IsOfBytes (Full place) = ⊥
IsOfBytes Memory = Unit {0}

-- any but want of room
abbrev pub IsOfReading : Fault → Type 0
IsOfReading Disk = Unit {0}
IsOfReading (Broken place) = Unit {0}
IsOfReading (Full place) = ⊥
IsOfReading Memory = Unit {0}
