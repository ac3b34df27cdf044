-- What a run of calls on a journal leaves, and what it costs.
use Rattle.std.specs.Prelude.{◌≡◌, ◌≤◌, ◌⊎◌, ℕ, ◌+◌, List, [], ◌∷◌, ◌++◌, Vec}
use Rattle.std.specs.declared.alloc.Global.{Global}
use Rattle.qc_disk.specs.Disk.{CountsOnce, FallsAway, HasCause, LeavesOnly, next}
use Rattle.qc_disk.specs.declared.disk.Disk.{Ghosts}
use Rattle.qc_journal.specs.Device.{LosesNoRecord}
use Rattle.qc_journal.specs.Image.{HasRecords, bodies_of}
use Rattle.qc_journal.specs.Journal.{Keeps, disk_of, limit_of, place_of}
use Rattle.qc_journal.specs.declared.journal.Journal.{Journal}
use Rattle.qc_ledger.specs.Image.{HaveRoom, IsFull}

-- an image has these records, or these and one more
abbrev pub HasOrMore : List (List ℕ) → List ℕ → List ℕ → Type 0
HasOrMore bodies more image = HasRecords bodies image ⊎ HasRecords (bodies ++ more ∷ []) image

-- it rose twice
abbrev pub RoseTwice : ℕ → ℕ → Type 0
RoseTwice before now = next (next before) ≤ now

-- A count rose by two at most, and by one at most where this is not so.
pub record CountsTwice (before now : ℕ) (Twice : Type 0) : Type 0 where
  pub twice : now ≤ before + 2
  pub once : (Twice → ⊥) → now ≤ before + 1

module _ {D : Type 0} {g : Ghosts D} (journal : Journal D g) (bodies : Vec (Vec ℕ Global) Global) where
  -- it keeps the records of these bodies
  abbrev pub KeepsAll : Type 0
  KeepsAll = Keeps journal (bodies_of bodies.items)

  -- of others that are written behind them, the first that would pass the limit goes to this place
  abbrev pub IsFullBehind : List (List ℕ) → ℕ → Type 0
  IsFullBehind more place = IsFull (limit_of journal) (bodies_of bodies.items) more place

  -- others have room behind them
  abbrev pub HaveRoomBehind : List (List ℕ) → Type 0
  HaveRoomBehind more = HaveRoom (limit_of journal) (bodies_of bodies.items) more

-- there are these bodies more
abbrev pub HasMore : Vec (Vec ℕ Global) Global → Vec (Vec ℕ Global) Global → List (List ℕ) → Type 0
HasMore old new more = bodies_of new.items ≡ bodies_of old.items ++ more

module _ {D : Type 0} {g : Ghosts D} (old new : Journal D g) where
  -- a crash at any moment of the run leaves what has P
  abbrev pub Leaves : (List ℕ → Type 0) → Type 0
  Leaves P = LeavesOnly g.view (disk_of old) (disk_of new) P

  -- of two moments of the run, each image of the later has every record that all images of the earlier have
  abbrev pub LosesNone : Type 0
  LosesNone = LosesNoRecord g.view (disk_of old) (disk_of new)

  -- images only fall away
  abbrev pub Falls : Type 0
  Falls = FallsAway g.view (disk_of old) (disk_of new)

  -- its next record goes to no earlier place
  abbrev pub GoesOn : Type 0
  GoesOn = place_of old ≤ place_of new

  -- the disk's count of faults never falls, and it rose where this failed
  abbrev pub Costs : Type 0 → Type 0
  Costs Failed = HasCause (g.view (disk_of old)).faults (g.view (disk_of new)).faults Failed

  -- the disk's count of faults rose twice
  abbrev pub CostsTwo : Type 0
  CostsTwo = RoseTwice (g.view (disk_of old)).faults (g.view (disk_of new)).faults

  -- the disk's count of faults rose by one at most, and only where this failed
  abbrev pub CostsOnce : Type 0 → Type 0
  CostsOnce Failed = CountsOnce (g.view (disk_of old)).faults (g.view (disk_of new)).faults Failed

  -- the disk's count of faults rose by two at most, and by one at most where this is not so
  abbrev pub CostsTwice : Type 0 → Type 0
  CostsTwice Twice = CountsTwice (g.view (disk_of old)).faults (g.view (disk_of new)).faults Twice
