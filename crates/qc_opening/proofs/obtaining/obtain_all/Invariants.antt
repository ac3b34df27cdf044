-- The disks so far stand at the places below the next one, and the shop tells of the others what it did.
use Rattle.std.proofs.Common.{ℕ, ◌≡◌, ◌≢◌, ◌≤◌, ◌++◌, All, List, length}
use Rattle.std.specs.Vec.{vec_capacity}
use Rattle.qc_disk.specs.Shop.{TellsAlike, disks_of_place}
use Rattle.qc_opening.specs.Disks.{by_place, first_numbers, AreCounted, AreOffered}
use Rattle.qc_opening.proofs.obtaining.obtain_all.Given as goal

abbrev pub invariant-loop-at : goal.invariant-loop-at
invariant-loop-at g l = record {
  offered : AreOffered g.H.D.Disk.view (by_place l.copies ((g.H.Shop.view l.initial.shop).offers l.place)) 0 l.disks.items;
  counted : AreCounted g.H.D.Disk.view (by_place l.copies ((g.H.Shop.view l.initial.shop).counts l.place)) 0 l.disks.items;
  size : length l.disks.items ≡ l.at;
  room : vec_capacity l.disks ≡ l.count;
  others : (p : List ℕ) (n : ℕ) → All (λ which. n ≢ which) (first_numbers l.copies l.at) → TellsAlike (g.H.Shop.view l.initial.shop) (g.H.Shop.view l.shop) p n;
  gave : (g.H.Shop.view l.shop).gave ≡ (g.H.Shop.view l.initial.shop).gave ++ disks_of_place l.place (first_numbers l.copies l.at);
  later : (g.H.Shop.view l.initial.shop).faults ≤ (g.H.Shop.view l.shop).faults;
}
