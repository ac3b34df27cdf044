-- The parts of a pair.
use Rattle.std.specs.Prelude.{ℕ, ◌+◌, Bool, if◌then◌else◌}
use Rattle.qc_disk.specs.declared.disk.Disk.{Ghosts}
use Rattle.qc_journal.specs.declared.journal.Journal.{Journal}
use Rattle.qc_pair.specs.declared.pair.Pair.{Pair}

-- the number of a disk, or of its spare
abbrev pub number_at : Bool → ℕ → ℕ
number_at is_spare who = if is_spare then who + 17 else who

module _ {D : Type 0} {g : Ghosts D} (pair : Pair D g) where
  -- the journal that is read
  abbrev pub active_of : Journal D g
  active_of = pair.active

  -- the journal into which it is folded
  abbrev pub other_of : Journal D g
  other_of = pair.other

  -- the number of the last fold, 0 where there was none
  abbrev pub number_of : ℕ
  number_of = pair.number

  -- whether the spare is active
  abbrev pub swapped : Bool
  swapped = pair.is_swapped

  -- the journal on the disk
  abbrev pub own_of : Journal D g
  own_of = if pair.is_swapped then pair.other else pair.active

  -- the journal on the spare
  abbrev pub spare_of : Journal D g
  spare_of = if pair.is_swapped then pair.active else pair.other
