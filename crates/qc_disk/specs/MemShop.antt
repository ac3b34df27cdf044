-- The parts of a shop of disks in memory, and the disk that it gives.
use Rattle.std.specs.Prelude.{◌≡◌, ℕ, List, [], map, Some, slice_index_or, slice_set, Bool, true, false, Result, Ok, Err}
use Rattle.qc_disk.specs.Given.{given_list}
use Rattle.qc_disk.specs.MemDisk.{mem_bytes, mem_faults, IsEmpty}
use Rattle.qc_disk.specs.Shop.{ShopView}
use Rattle.qc_disk.specs.declared.disk.DiskNo.{DiskNo}
use Rattle.qc_disk.specs.declared.disk.DiskNo.TheVariants.{Failed, Memory}
use Rattle.qc_disk.specs.declared.memory.MemDisk.{MemDisk}
use Rattle.qc_disk.specs.declared.shop.memory.MemShop.{MemShop}

-- the disks that it has, by their numbers
abbrev pub shop_disks : MemShop → List MemDisk
shop_disks shop = shop.disks.items

-- the numbers at which it fails
abbrev pub shop_fails : MemShop → List ℕ
shop_fails shop = shop.fails.items

-- how often it failed
abbrev pub shop_faults : MemShop → ℕ
shop_faults shop = shop.faults

-- the bytes of the disk that it would give at a number
abbrev pub shop_bytes : MemShop → ℕ → List ℕ
shop_bytes shop which = slice_index_or (map mem_bytes (shop_disks shop)) which []

-- how often the disk that it would give at a number has failed
abbrev pub shop_counts : MemShop → ℕ → ℕ
shop_counts shop which = slice_index_or (map mem_faults (shop_disks shop)) which 0

-- what it is, seen as a shop
abbrev pub shop_view : MemShop → ShopView
shop_view shop = record {
  offers = λ place which. Some (shop_bytes shop which);
  counts = λ place which. shop_counts shop which;
  faults = shop_faults shop;
  gave = given_list shop.given;
}

-- The shop gives the disk of a number, or an empty one where it has none, and an empty one takes its place.
pub record Gives (old new : MemShop) (which : ℕ) (given : MemDisk) : Type 0 where
  pub empty : MemDisk
  pub is_empty : IsEmpty empty
  pub disk : given ≡ slice_index_or (shop_disks old) which empty
  pub disks : shop_disks new ≡ slice_set (shop_disks old) which empty

-- whether a call failed, and not for want of memory
abbrev pub has_failed : {D : Type 0} → Result D DiskNo → Bool
has_failed (Ok disk) = false
has_failed (Err Failed) = true
has_failed (Err Memory) = false
