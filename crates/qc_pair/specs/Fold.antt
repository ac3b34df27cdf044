-- The journal of a pair into which the active one is folded, and what a fold writes there.
use Rattle.std.specs.Prelude.{ℕ, ◌≡◌, ◌+◌, Bool, not, if◌then◌else◌, List, [], ◌∷◌, Result, Ok, Err, Vec}
use Rattle.std.specs.declared.alloc.Global.{Global}
use Rattle.qc_config.specs.declared.tuple.Tuple.{Tuple}
use Rattle.qc_disk.specs.declared.disk.Disk.{Ghosts}
use Rattle.qc_journal.specs.Journal.{disk_of, limit_of, IsUp}
use Rattle.qc_journal.specs.declared.fault.Fault.{Fault}
use Rattle.qc_journal.specs.declared.journal.Journal.{Journal}
use Rattle.qc_pair.specs.Folding.{HasNoRoom, next_base}
use Rattle.qc_pair.specs.declared.fold.Fold.{Fold}

module _ {D : Type 0} {g : Ghosts D} (fold : Fold D g) where
  -- the journal
  abbrev pub other_in : Journal D g
  other_in = fold.other

  -- the number of the active journal's base, 0 where it has none
  abbrev pub active_number : ℕ
  active_number = fold.number

  -- whether the spare is active
  abbrev pub swapped_in : Bool
  swapped_in = fold.is_swapped

  -- the disk itself and its spare, of which one is active
  abbrev pub own_disk : D → D
  own_disk active = if swapped_in then disk_of other_in else active

  abbrev pub spare_disk : D → D
  spare_disk active = if swapped_in then active else disk_of other_in

  -- the body that says how the disk was made
  abbrev pub made_in : List ℕ
  made_in = fold.made.items

  -- the epoch of the run
  abbrev pub epoch_in : ℕ
  epoch_in = fold.epoch

  -- of how many copies the store is
  abbrev pub copies_in : ℕ
  copies_in = fold.copies

  -- the body of the next base, as of an epoch, with these tuples
  abbrev pub renewed_base : ℕ → List Tuple → List ℕ
  renewed_base epoch tuples = next_base fold.copies fold.number epoch tuples

  -- and what stands after such a fold
  abbrev pub renewed_bodies : ℕ → List Tuple → List (List ℕ)
  renewed_bodies epoch tuples = made_in ∷ renewed_base epoch tuples ∷ []

  -- the body of the next base of the run, with these tuples
  abbrev pub folded_base : List Tuple → List ℕ
  folded_base = renewed_base fold.epoch

  -- what stands after a fold
  abbrev pub folded_bodies : List Tuple → List (List ℕ)
  folded_bodies tuples = made_in ∷ folded_base tuples ∷ []

  -- it has no room at this place
  abbrev pub IsFullFor : List Tuple → ℕ → Type 0
  IsFullFor tuples place = HasNoRoom fold.number (limit_of fold.other) made_in (folded_base tuples) place

  -- It may be called: its journal is up, of this limit, and it writes this made record and this epoch for so many copies.
  pub record IsFoldFor (limit : ℕ) (made : List ℕ) (epoch copies : ℕ) : Type 0 where
    pub up : IsUp fold.other
    pub limit_is : limit_of fold.other ≡ limit
    pub made_is : made_in ≡ made
    pub epoch_is : fold.epoch ≡ epoch
    pub copies_are : fold.copies ≡ copies

-- A call leaves all but what the journal has.
pub record IsSameFold {D : Type 0} {g : Ghosts D} (old new : Fold D g) : Type 0 where
  pub number : active_number new ≡ active_number old
  pub swapped : swapped_in new ≡ swapped_in old
  pub made : made_in new ≡ made_in old
  pub epoch : epoch_in new ≡ epoch_in old
  pub copies : copies_in new ≡ copies_in old
  pub limit : limit_of (other_in new) ≡ limit_of (other_in old)

-- The journal that was folded into is active, and the one that was is the other, whose disk is made so.
pub record IsExchanged {D : Type 0} {g : Ghosts D} (old : Fold D g) (active : Journal D g) (made : List ℕ) (new : Fold D g) : Type 0 where
  pub other : other_in new ≡ active
  pub number : active_number new ≡ active_number old + 1
  pub swapped : swapped_in new ≡ not (swapped_in old)
  pub made_is : made_in new ≡ made
  pub epoch : epoch_in new ≡ epoch_in old
  pub copies : copies_in new ≡ copies_in old

-- the disk that was folded into, where both journals were exchanged or where it was refused
abbrev pub folded_disk : {D : Type 0} {g : Ghosts D} → Result (Journal D g × Vec (Vec ℕ Global) Global × Fold D g) (Journal D g × Fold D g × Fault) → D
folded_disk (Ok renewed) = disk_of renewed.0
folded_disk (Err refused) = disk_of (other_in refused.1)
