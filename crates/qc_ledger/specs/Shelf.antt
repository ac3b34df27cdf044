-- The parts of an open ledger, and what a refused logging leaves.
use Rattle.std.specs.Prelude.{◌≡◌, ◌<◌, ◌≤◌, ◌⊎◌, ◌+◌, ◌^◌, ℕ, List, length, Option, None, Some, Result, Err}
use Rattle.qc_disk.specs.declared.disk.Disk.{Ghosts}
use Rattle.qc_codec.specs.Bodies as body
use Rattle.qc_codec.specs.declared.record.LedgerRecord.TheVariants.{Top}
use Rattle.qc_event.specs.declared.short.Short.TheVariants.{Memory, Room}
use Rattle.qc_event.specs.History.{Name}
use Rattle.qc_journal.specs.Journal.{IsDown, IsUp, in_hand, limit_of, place_of}
use Rattle.qc_journal.specs.declared.journal.Journal.{Journal}
use Rattle.qc_ledger.specs.declared.fault.LedgerNo.{LedgerNo}
use Rattle.qc_ledger.specs.declared.fault.LedgerNo.TheVariants.{Disk, Image, Full, Short}
use Rattle.qc_ledger.specs.declared.shelf.Shelf.{Shelf}

-- the journal
abbrev pub journal_in : {D : Type 0} {g : Ghosts D} → Shelf D g → Journal D g
journal_in shelf = shelf.journal

-- the top in hand
abbrev pub top_in : {D : Type 0} {g : Ghosts D} → Shelf D g → Option Name
top_in shelf = shelf.hand

-- the body of a top's record
abbrev pub top_body : Name → List Name → List ℕ
top_body top aborted = body.ledger.spell (Top top aborted)

-- It is up with nothing in hand, and the next record goes to this place.
pub record IsIdle {D : Type 0} {g : Ghosts D} (shelf : Shelf D g) (place : ℕ) : Type 0 where
  pub up : IsUp shelf.journal
  pub none : shelf.hand ≡ None
  pub at : place_of shelf.journal ≡ place

-- It is down, with this top and its record in hand, which may stand at this place.
pub record IsUnsure {D : Type 0} {g : Ghosts D} (shelf : Shelf D g) (place : ℕ) (top : Name) (body : List ℕ) : Type 0 where
  pub down : IsDown shelf.journal
  pub hand : shelf.hand ≡ Some top
  pub in_journal : in_hand shelf.journal ≡ Some body
  pub at : place_of shelf.journal ≡ place

-- what each refusal of a logging leaves
abbrev pub LogLeaves : {D : Type 0} {g : Ghosts D} → Shelf D g → Shelf D g → Name → List ℕ → LedgerNo → Type 0
LogLeaves old new top body Disk = IsUnsure new (place_of old.journal) top body
LogLeaves old new top body (Image bad) = ⊥
LogLeaves old new top body (Full place) = (place ≡ place_of old.journal) × (new.journal ≡ old.journal) × (new.hand ≡ old.hand)
LogLeaves old new top body (Short Room) = ⊥
LogLeaves old new top body (Short Memory) = IsIdle new (place_of old.journal) ⊎ IsUnsure new (place_of old.journal) top body

-- A record of this body ends where the next one would begin, and its gate is within the limit.
pub record EndsWithin {D : Type 0} {g : Ghosts D} (journal : Journal D g) (body : List ℕ) : Type 0 where
  pub behind : length body + 5 ≤ place_of journal
  pub within : place_of journal + 1 ≤ limit_of journal
  pub sized : length body < 2 ^ 32

-- what each refusal of a top leaves in hand: what was in hand, that top, or nothing
abbrev pub LeavesInHand : LedgerNo → Option Name → Name → Option Name → Type 0
LeavesInHand Disk old top new = (new ≡ old) ⊎ (new ≡ Some top)
LeavesInHand (Image bad) old top new = ⊥
LeavesInHand (Full place) old top new = new ≡ None
LeavesInHand (Short short) old top new = (new ≡ None) ⊎ (new ≡ old) ⊎ (new ≡ Some top)

-- what each refusal of a revival leaves: the top in hand, of a ledger that is down after a fault of its disk, and up where
-- there was no room to enter it
abbrev pub ReviveLeaves : {D : Type 0} {g : Ghosts D} → Shelf D g → Shelf D g → LedgerNo → Type 0
ReviveLeaves old new Disk = IsDown new.journal × (new.hand ≡ old.hand)
ReviveLeaves old new (Image bad) = ⊥
ReviveLeaves old new (Full place) = ⊥
ReviveLeaves old new (Short Memory) = new.hand ≡ old.hand
ReviveLeaves old new (Short Room) = IsUp new.journal × (new.hand ≡ old.hand)

-- a refusal by the disk or for memory
abbrev pub IsDeviceNo : LedgerNo → Type 0
IsDeviceNo Disk = Unit {0}
IsDeviceNo (Image bad) = ⊥
IsDeviceNo (Full place) = ⊥
IsDeviceNo (Short Memory) = Unit {0}
IsDeviceNo (Short Room) = ⊥

-- this refusal, or for memory
abbrev pub IsRefusedFor : {T : Type 0} → LedgerNo → Result T LedgerNo → Type 0
IsRefusedFor refusal result = (result ≡ Err refusal) ⊎ (result ≡ Err (Short Memory))
