-- The parts of a disk that stops, and what a call may do to it.
use Rattle.std.specs.Prelude.{◌≡◌, ◌↔◌, ◌≤◌, ℕ, ◌+◌, List, length, Some, Result, Ok, Err}
use Rattle.std.proofs.Common.{sym, subst, arith}
use Rattle.std.proofs.lemmas.List.{take_all}
use Rattle.qc_disk.specs.Disk.{DiskView, next}
use Rattle.qc_disk.specs.Replay.{Act, replayed, syncs_in, images, images_at}
use Rattle.qc_disk.specs.Kept.{records_kept}
use Rattle.qc_disk.specs.Laws.{exact-replayed}
use Rattle.qc_disk.specs.Tape.{tape_first, tape_acts, tape_bytes, Applied, Untouched}
use Rattle.qc_disk.specs.declared.disk.DiskNo.{DiskNo}
use Rattle.qc_disk.specs.declared.disk.DiskNo.TheVariants.{Failed, Memory}
use Rattle.qc_disk.specs.declared.stop.StopDisk.{StopDisk}

-- what it was made with
abbrev pub stop_first : StopDisk → List ℕ
stop_first disk = tape_first disk.tape

-- what each call did that was made before it stopped, the oldest first
abbrev pub stop_acts : StopDisk → List Act
stop_acts disk = tape_acts disk.tape

-- what is there now
abbrev pub stop_bytes : StopDisk → List ℕ
stop_bytes disk = tape_bytes disk.tape

-- what the calls did, done to what it was made with, makes what is there now
pub stop_replays : (disk : StopDisk) → stop_bytes disk ≡ replayed (stop_first disk) (stop_acts disk)
stop_replays disk = sym (exact-replayed (records_kept disk.tape.records) (stop_bytes disk) disk.tape.exact)

-- what a crash may leave
abbrev pub stop_images : StopDisk → List ℕ → Type 0
stop_images disk c = images (stop_first disk) (stop_acts disk) c

-- how many calls it refused, since it has stopped
abbrev pub stop_refused : StopDisk → ℕ
stop_refused disk = disk.refused

-- the moment: how many calls it made and refused
abbrev pub stop_moment : StopDisk → ℕ
stop_moment disk = length (stop_acts disk) + stop_refused disk

-- what a crash might have left after the t-th call
abbrev pub stop_at : StopDisk → ℕ → List ℕ → Type 0
stop_at disk t c = images_at (stop_first disk) (stop_acts disk) t c

-- how often it was synced
abbrev pub stop_syncs : StopDisk → ℕ
stop_syncs disk = syncs_in (stop_acts disk)

-- what it is, seen as a disk
abbrev pub stop_view : StopDisk → DiskView
stop_view disk = record {
  content = Some (stop_bytes disk);
  size = length (stop_bytes disk);
  may_leave = stop_images disk;
  moment = stop_moment disk;
  left_at = stop_at disk;
  faults = stop_refused disk;
  syncs = stop_syncs disk;
}

-- from the last call that it made on a crash leaves what it may leave now
pub stop_since : (disk : StopDisk) (t : ℕ) (c : List ℕ) → length (stop_acts disk) ≤ t → stop_at disk t c ↔ stop_images disk c
stop_since disk t c late =
    let all = take_all t (stop_acts disk) late in
    (λ left. subst (λ (l : List Act). images (stop_first disk) l c) all left, λ left. subst (λ (l : List Act). images (stop_first disk) l c) (sym all) left)

pub stop_now : (disk : StopDisk) (c : List ℕ) → stop_at disk (stop_moment disk) c ↔ stop_images disk c
stop_now disk c = stop_since disk (stop_moment disk) c (omega arith)

-- A call before the stop has done its work.
pub record StopWorked (old new : StopDisk) (act : Act) : Type 0 where
  pub running : stop_refused old ≡ 0
  pub tape : Applied old.tape new.tape act
  pub refused : stop_refused new ≡ 0

-- A call from the stop on has done nothing, and is counted.
pub record StopRefused (old new : StopDisk) : Type 0 where
  pub tape : new.tape ≡ old.tape
  pub refused : stop_refused new ≡ next (stop_refused old)

-- A call before the stop that got no memory has done nothing.
pub record StopUnmade (old new : StopDisk) : Type 0 where
  pub running : stop_refused old ≡ 0
  pub tape : Untouched old.tape new.tape
  pub refused : stop_refused new ≡ 0

-- what a call whose work is an act does to the disk, by its answer: one that has refused a call refuses all after it
abbrev pub StopTurned : {T : Type 0} → StopDisk → StopDisk → Act → Result T DiskNo → Type 0
StopTurned old new act (Ok answer) = StopWorked old new act
StopTurned old new act (Err Failed) = StopRefused old new
StopTurned old new act (Err Memory) = StopUnmade old new
