-- A disk of either kind, and the shop that gives it.
use Rattle.std.specs.Prelude.{◌≡◌, ◌↔◌, ℕ, List, [], ◌∷◌, length, Option, Some, None, refl}
use Rattle.qc_disk.specs.Disk.{IsImage, HasLength}
use Rattle.qc_disk.specs.Given.{given_list}
use Rattle.qc_disk.specs.Laws.{image_now, at_end}
use Rattle.qc_disk.specs.MemDisk.{mem_first, mem_acts, mem_bytes, mem_replays, mem_images, mem_at, mem_faults, mem_syncs, IsEmpty}
use Rattle.qc_disk.specs.declared.file.FileDisk.{FileDisk}
use Rattle.qc_disk.specs.Shop.{ShopView}
use Rattle.qc_disk.specs.declared.home.HomeDisk.{HomeDisk}
use Rattle.qc_disk.specs.declared.home.HomeDisk.TheVariants.{Memory, File}
use Rattle.qc_disk.specs.declared.home.HomeShop.{HomeShop}

-- the size of a file, as it was last known
abbrev pub file_size : FileDisk → ℕ
file_size disk = disk.size

-- how often a file was called
abbrev pub file_calls : FileDisk → ℕ
file_calls disk = disk.calls

-- how often a file failed
abbrev pub file_faults : FileDisk → ℕ
file_faults disk = disk.faults

-- how often a file was synced, its folder's sync first
abbrev pub file_syncs : FileDisk → ℕ
file_syncs disk = disk.syncs.count

-- the bytes of a disk in memory; a file tells none
abbrev pub home_content : HomeDisk → Option (List ℕ)
home_content (Memory disk) = Some (mem_bytes disk)
home_content (File disk) = None

-- how many bytes there are
abbrev pub home_size : HomeDisk → ℕ
home_size (Memory disk) = length (mem_bytes disk)
home_size (File disk) = file_size disk

-- what a crash may leave: of a file anything
abbrev pub home_images : HomeDisk → List ℕ → Type 0
home_images (Memory disk) c = mem_images disk c
home_images (File disk) c = Unit {0}

-- the moment: how many calls were counted
abbrev pub home_moment : HomeDisk → ℕ
home_moment (Memory disk) = length (mem_acts disk)
home_moment (File disk) = file_calls disk

-- what a crash might have left at a moment
abbrev pub home_at : HomeDisk → ℕ → List ℕ → Type 0
home_at (Memory disk) t c = mem_at disk t c
home_at (File disk) t c = Unit {0}

-- how often the disk failed
abbrev pub home_faults : HomeDisk → ℕ
home_faults (Memory disk) = mem_faults disk
home_faults (File disk) = file_faults disk

-- how often the disk was synced
abbrev pub home_syncs : HomeDisk → ℕ
home_syncs (Memory disk) = mem_syncs disk
home_syncs (File disk) = file_syncs disk

-- the bytes of the disk that is given for a place: an empty place gives an empty disk, and a folder tells nothing
abbrev pub home_offers : List ℕ → Option (List ℕ)
home_offers [] = Some []
home_offers (byte ∷ rest) = None

-- what the shop is: the disks that it would give have not failed
abbrev pub home_view : HomeShop → ShopView
home_view shop = record {
  offers = λ place which. home_offers place;
  counts = λ place which. 0;
  faults = shop.faults;
  gave = given_list shop.given;
}

-- an empty place gives an empty disk in memory, and a folder a file that was not called and has not failed, and whose folder was synced
abbrev pub HomeGives : List ℕ → HomeDisk → Type 0
HomeGives [] (Memory disk) = IsEmpty disk
HomeGives [] (File disk) = ⊥
HomeGives (byte ∷ rest) (Memory disk) = ⊥
HomeGives (byte ∷ rest) (File disk) = (file_calls disk ≡ 0) × (file_faults disk ≡ 0) × (file_syncs disk ≡ 1)

-- a disk of either kind has the laws of a disk
pub home_image : (disk : HomeDisk) → IsImage (home_content disk) (home_images disk)
home_image (Memory disk) = image_now (mem_first disk) (mem_acts disk) (mem_bytes disk) (mem_replays disk)
home_image (File disk) = tt

pub home_length : (disk : HomeDisk) → HasLength (home_content disk) (home_size disk)
home_length (Memory disk) = refl
home_length (File disk) = tt

pub home_now : (disk : HomeDisk) (c : List ℕ) → home_at disk (home_moment disk) c ↔ home_images disk c
home_now (Memory disk) c = at_end (mem_first disk) (mem_acts disk) c
home_now (File disk) c = (λ left. left, λ left. left)
