-- What a crash might have left of a disk at each moment since one, and that no record is lost again.
use Rattle.std.specs.Prelude.{◌≡◌, ◌≤◌, ◌⊎◌, ℕ, List, ◌++◌, length, map, IfSome, IsTrue, Option, option_to_list}
use Rattle.qc_disk.specs.Disk.{DiskView}
use Rattle.qc_disk.specs.declared.disk.Disk.{Ghosts}
use Rattle.qc_event.specs.History.{Name, Past, IsOpen, is_ready}
use Rattle.qc_event.specs.Seats.{ledger_seat}
use Rattle.qc_journal.specs.Image.{HasAt, HasRecords}
use Rattle.qc_ledger.specs.Entered.{told_body, tops_of}
use Rattle.qc_ledger.specs.Shelf.{journal_in}
use Rattle.qc_ledger.specs.declared.shelf.Shelf.{Shelf}
use Rattle.qc_desk.specs.Entries.{IsOlder, entries_of}

-- THE LAW OF A RUN

-- an image has these records, and behind them some of which this is so
abbrev pub HasBehind : List (List ℕ) → (List (List ℕ) → Type 0) → List ℕ → Type 0
HasBehind before May image = (more : List (List ℕ)) × May more × HasRecords (before ++ more) image

-- all that a crash might have left at a moment has P
abbrev pub AllLeft : DiskView → ℕ → (List ℕ → Type 0) → Type 0
AllLeft disk t P = (c : List ℕ) → disk.left_at t c → P c

-- At each moment from one on, up to now, each image has the records from before it, and behind them some of which this is so. Of two such moments each image of the later has every record that all images of the earlier have.
pub record GrownSince (since : ℕ) (before : List (List ℕ)) (May : List (List ℕ) → Type 0) (disk : DiskView) : Type 0 where
  pub later : since ≤ disk.moment
  pub each : (t : ℕ) → since ≤ t → t ≤ disk.moment → AllLeft disk t (HasBehind before May)
  pub within : (t u : ℕ) → since ≤ t → t ≤ u → u ≤ disk.moment → (index : ℕ) (had : List ℕ) → AllLeft disk t (HasAt index had) → AllLeft disk u (HasAt index had)

-- THE LEDGER'S RECORDS

-- these, or these and one more
abbrev pub OrMore : {A : Type 0} → List A → Option A → List A → Type 0
OrMore these more all = (all ≡ these) ⊎ (all ≡ these ++ option_to_list more)

-- A top may be committed next.
pub record IsNext (past : Past) (top : Name) : Type 0 where
  pub is_top : length top ≡ 1
  pub ready : IsTrue (is_ready past top)
  pub is_open : IsOpen past top

-- Bodies are those of the tops that the ledger had committed at some time up to now, in order, and maybe of one more, which could be committed next then.
pub record AreTopsBy (told : Name → List Name) (past : Past) (bodies : List (List ℕ)) : Type 0 where
  pub earlier : Past
  pub older : IsOlder earlier past
  pub untold : Option Name
  pub next : IfSome untold (IsNext earlier)
  pub tops : List Name
  pub these : OrMore (tops_of (entries_of ledger_seat earlier)) untold tops
  pub are : bodies ≡ map (told_body told) tops

-- since a moment the ledger's disk has the records from before it, and behind them those of tops up to now
abbrev pub TopsGrow : {D : Type 0} {g : Ghosts D} → (Name → List Name) → List (List ℕ) → ℕ → Shelf D g → Past → Type 0
TopsGrow {D} {g} told before since shelf past = GrownSince since before (AreTopsBy told past) (g.view (journal_in shelf).disk)
