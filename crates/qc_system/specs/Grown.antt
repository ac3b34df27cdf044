-- How a disk has grown since its mounting.
use Rattle.std.specs.Prelude.{◌<◌, ◌≤◌, ◌↔◌, ℕ, List, None}
use Rattle.qc_disk.specs.Disk.{DiskView}
use Rattle.qc_ledger.specs.Since.{AllLeft, GrownSince}
use Rattle.qc_pair.specs.Folding.{IsFolding}

-- at each moment before the one of the first, a crash left of the disk what it left of the first
abbrev pub LeftAlike : DiskView → DiskView → Type 0
LeftAlike first disk = (t : ℕ) (c : List ℕ) → t < first.moment → disk.left_at t c ↔ first.left_at t c

-- Before the first's moment a crash left of the disk what it left of the first. At each moment since, an image has the records from before, and behind them some of which this is so; and no record was lost.
pub record GrownFrom (first : DiskView) (before : List (List ℕ)) (May : List (List ℕ) → Type 0) (disk : DiskView) : Type 0 where
  pub began : LeftAlike first disk
  pub grown : GrownSince first.moment before May disk

-- Before the first's moment a crash left of the disk what it left of the first. At each moment since, an image has the records from before, or none, or what a fold writes: how the disk was made, or that and a base.
pub record FoldedFrom (first : DiskView) (before : List (List ℕ)) (made base : List ℕ) (disk : DiskView) : Type 0 where
  pub began : LeftAlike first disk
  pub later : first.moment ≤ disk.moment
  pub each : (t : ℕ) → first.moment ≤ t → t ≤ disk.moment → AllLeft disk t (IsFolding before made base)

-- a disk where a value is wanted and nothing is said of it
abbrev pub no_disk : DiskView
no_disk = record {
  content = None;
  size = 0;
  may_leave = λ c. ⊥;
  moment = 0;
  left_at = λ t c. ⊥;
  faults = 0;
  syncs = 0;
}
