-- What the obtaining of a store's disks gives.
use Rattle.std.specs.Prelude.{ℕ, ◌≡◌, ◌<◌, ◌≤◌, List, length, Result, Ok, Err, Vec}
use Rattle.std.specs.declared.alloc.Global.{Global}
use Rattle.qc_disk.specs.Disk.{Rose}
use Rattle.qc_opening.specs.Disks.{all_places, number_of}
use Rattle.qc_opening.specs.Refusing.{disks_in}
use Rattle.qc_opening.specs.declared.mount_no.MountNo.{MountNo}
use Rattle.qc_opening.specs.declared.mount_no.MountNo.TheVariants as no

-- the disks that were given
abbrev pub disks_of : {D : Type 0} → Result (Vec D Global) (MountNo D) → List D
disks_of (Ok disks) = disks.items
disks_of (Err refused) = disks_in refused

-- Not all disks of so many copies were given: the shop failed at the next one, or there was no memory.
abbrev pub IsNotGiven : {D : Type 0} → ℕ → ℕ → ℕ → MountNo D → Type 0
IsNotGiven copies before now (no.Disk which disks) = (which ≡ number_of copies (length disks.items)) × (length disks.items < all_places copies) × Rose before now
IsNotGiven copies before now (no.Image fault disks) = ⊥
IsNotGiven copies before now (no.Memory disks) = length disks.items ≤ all_places copies
