-- The parts of a shop of disks that stop, and the disk that it gives.
use Rattle.std.specs.Prelude.{◌≡◌, ℕ, List, [], map, Some, slice_index_or, slice_set, vec_items}
use Rattle.qc_disk.specs.Given.{given_list}
use Rattle.qc_disk.specs.Shop.{ShopView}
use Rattle.qc_disk.specs.StopDisk.{stop_acts, stop_bytes, stop_first, stop_refused}
use Rattle.qc_disk.specs.declared.stop.StopDisk.{StopDisk}
use Rattle.qc_disk.specs.declared.shop.stop.StopShop.{StopShop}

-- the bytes of the disks that it has, by their numbers
abbrev pub stop_disks : StopShop → List (List ℕ)
stop_disks shop = map vec_items shop.disks.items

-- the bytes of the disk that it would give at a number: of one that it has not, none
abbrev pub offered : StopShop → ℕ → List ℕ
offered shop which = slice_index_or (stop_disks shop) which []

-- what it is, seen as a shop: it does not fail, nor has a disk that it would give
abbrev pub stop_shop_view : StopShop → ShopView
stop_shop_view shop = record {
  offers = λ place which. Some (offered shop which);
  counts = λ place which. 0;
  faults = 0;
  gave = given_list shop.given;
}

-- The shop gives a disk of the bytes of a number, of which no call was made, and an empty one takes its place.
pub record StopGives (old new : StopShop) (which : ℕ) (given : StopDisk) : Type 0 where
  pub first : stop_first given ≡ offered old which
  pub bytes : stop_bytes given ≡ offered old which
  pub acts : stop_acts given ≡ []
  pub refused : stop_refused given ≡ 0
  pub disks : stop_disks new ≡ slice_set (stop_disks old) which []
