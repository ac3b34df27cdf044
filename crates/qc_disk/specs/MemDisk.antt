-- The parts of a disk in memory, and what a call may do to it.
use Rattle.std.specs.Prelude.{◌≡◌, ℕ, ◌+◌, List, [], length, Option, Some, None, Bool, if◌then◌else◌, Result, Ok, Err}
use Rattle.std.proofs.Common.{sym}
use Rattle.qc_disk.specs.Disk.{DiskView, next}
use Rattle.qc_disk.specs.Replay.{Act, nothing, replayed, fault_at, syncs_in, images, images_at}
use Rattle.qc_disk.specs.Kept.{records_kept}
use Rattle.qc_disk.specs.Laws.{exact-replayed}
use Rattle.qc_disk.specs.Tape.{tape_first, tape_acts, tape_bytes, Applied, Untouched}
use Rattle.qc_disk.specs.declared.disk.DiskNo.{DiskNo}
use Rattle.qc_disk.specs.declared.disk.DiskNo.TheVariants.{Failed, Memory}
use Rattle.qc_disk.specs.declared.faults.FailAt.{FailAt}
use Rattle.qc_disk.specs.declared.memory.MemDisk.{MemDisk}

-- what it was made with
abbrev pub mem_first : MemDisk → List ℕ
mem_first disk = tape_first disk.tape

-- what each call did, the oldest first
abbrev pub mem_acts : MemDisk → List Act
mem_acts disk = tape_acts disk.tape

-- what is there now
abbrev pub mem_bytes : MemDisk → List ℕ
mem_bytes disk = tape_bytes disk.tape

-- what the calls did, done to what it was made with, makes what is there now
pub mem_replays : (disk : MemDisk) → mem_bytes disk ≡ replayed (mem_first disk) (mem_acts disk)
mem_replays disk = sym (exact-replayed (records_kept disk.tape.records) (mem_bytes disk) disk.tape.exact)

-- what a crash may leave
abbrev pub mem_images : MemDisk → List ℕ → Type 0
mem_images disk c = images (mem_first disk) (mem_acts disk) c

-- what a crash might have left after the t-th call
abbrev pub mem_at : MemDisk → ℕ → List ℕ → Type 0
mem_at disk t c = images_at (mem_first disk) (mem_acts disk) t c

-- which calls fail
abbrev pub mem_fails : MemDisk → List FailAt
mem_fails disk = disk.fails.items

-- how often it failed
abbrev pub mem_faults : MemDisk → ℕ
mem_faults disk = disk.faults

-- how often it was synced
abbrev pub mem_syncs : MemDisk → ℕ
mem_syncs disk = syncs_in (mem_acts disk)

-- what it is, seen as a disk
abbrev pub mem_view : MemDisk → DiskView
mem_view disk = record {
  content = Some (mem_bytes disk);
  size = length (mem_bytes disk);
  may_leave = mem_images disk;
  moment = length (mem_acts disk);
  left_at = mem_at disk;
  faults = mem_faults disk;
  syncs = mem_syncs disk;
}

-- whether the next call is listed, and whether it does its work then
abbrev pub next_fault : MemDisk → Option Bool
next_fault disk = fault_at (mem_fails disk) (length (mem_acts disk) + 1)

-- An empty disk, of which no call was made and none is to fail.
pub record IsEmpty (disk : MemDisk) : Type 0 where
  pub first : mem_first disk ≡ []
  pub bytes : mem_bytes disk ≡ []
  pub acts : mem_acts disk ≡ []
  pub fails : mem_fails disk ≡ []
  pub faults : mem_faults disk ≡ 0

-- A call that is not listed has done its work.
pub record Worked (old new : MemDisk) (act : Act) : Type 0 where
  pub fault : next_fault old ≡ None
  pub tape : Applied old.tape new.tape act
  pub fails : mem_fails new ≡ mem_fails old
  pub faults : mem_faults new ≡ mem_faults old

-- A call that is listed has failed, and is counted.
pub record Failing (old new : MemDisk) (act : Act) : Type 0 where
  pub done : Bool
  pub fault : next_fault old ≡ Some done
  pub tape : Applied old.tape new.tape (if done then act else nothing)
  pub fails : mem_fails new ≡ mem_fails old
  pub faults : mem_faults new ≡ next (mem_faults old)

-- A call that got no memory has done nothing, and is not in the record.
pub record Unmade (old new : MemDisk) : Type 0 where
  pub tape : Untouched old.tape new.tape
  pub fails : mem_fails new ≡ mem_fails old
  pub faults : mem_faults new ≡ mem_faults old

-- what a call whose work is an act does to the disk, by its answer
abbrev pub Turned : {T : Type 0} → MemDisk → MemDisk → Act → Result T DiskNo → Type 0
Turned old new act (Ok answer) = Worked old new act
Turned old new act (Err Failed) = Failing old new act
Turned old new act (Err Memory) = Unmade old new
