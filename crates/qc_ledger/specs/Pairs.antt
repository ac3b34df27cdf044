-- What the mounting of a pair gives, and what it leaves of each of its disks.
use Rattle.std.specs.Prelude.{ℕ, ◌⊎◌, Bool, List, Option, IsSome, Result, Ok, Err}
use Rattle.qc_disk.specs.Disk.{CountsOnce, DiskView, HasCause, LeavesOnly}
use Rattle.qc_disk.specs.declared.disk.Disk.{Ghosts}
use Rattle.qc_event.specs.declared.table.Table.{Table}
use Rattle.qc_codec.specs.declared.image.ImageFault.TheVariants as image
use Rattle.qc_codec.specs.declared.past.Past.{Past}
use Rattle.qc_journal.specs.Device.{LeftOrAlike, LosesNoRecord}
use Rattle.qc_journal.specs.Journal.{Keeps, disk_of}
use Rattle.qc_ledger.specs.Image.{IsLedgerFault}
use Rattle.qc_ledger.specs.Mounted.{HasSome, MountsLedger, journal_of, records_of}
use Rattle.qc_ledger.specs.declared.book.Book.{Book}
use Rattle.qc_ledger.specs.declared.fault.LedgerNo.{LedgerNo}
use Rattle.qc_ledger.specs.declared.fault.LedgerNo.TheVariants as ledger_no
use Rattle.qc_pair.specs.Fold.{own_disk, spare_disk, swapped_in}
use Rattle.qc_pair.specs.Opening.{active_told, HaveActive, IsMountNo, OpensFold}
use Rattle.qc_pair.specs.Pair.{number_at}
use Rattle.qc_pair.specs.declared.fault.PairNo.{PairNo}
use Rattle.qc_pair.specs.declared.fault.PairNo.TheVariants.{Disk, Image, Memory}
use Rattle.qc_pair.specs.declared.fold.Fold.{Fold}
use Rattle.qc_pair.specs.declared.kind.Kind.{Kind}
use Rattle.qc_pair.specs.declared.kind.Kind.TheVariants as kind

-- ONE OF ITS DISKS

module _ (kind : Kind) (who : ℕ) (told spare_told : Option (List ℕ)) (written : ℕ → List (List ℕ) → List (List ℕ)) where
  -- An image is as before; or this disk is active, and it has the records that were found and some first ones of those that are
  -- written behind.
  abbrev pub IsHalfLeft : Bool → DiskView → List ℕ → Type 0
  IsHalfLeft is_spare disk image = LeftOrAlike disk.may_leave disk.content image
      ⊎ ((found : List (List ℕ)) × HaveActive kind who told spare_told is_spare found × HasSome found (written (number_at is_spare who) found) image)

  -- What a mounting leaves of one of both disks at each moment, and what it costs.
  pub record MountsHalf (is_spare : Bool) {D : Type 0} (view : D → DiskView) (Failed : Type 0) (old new : D) : Type 0 where
    pub any_moment : IsSome (view old).content → LeavesOnly view old new (IsHalfLeft is_spare (view old))
    pub grows : IsSome (view old).content → LosesNoRecord view old new
    pub cause : HasCause (view old).faults (view new).faults Failed
    pub counts_once : CountsOnce (view old).faults (view new).faults Failed

-- THE LEDGER'S PAIR

-- the disks of a ledger that was mounted, or that were handed back
abbrev pub own_after : {D : Type 0} {g : Ghosts D} → Result (Book D g × Fold D g × Past × ℕ) (D × D × PairNo) → D
own_after (Ok mounted) = own_disk mounted.1 (disk_of (journal_of mounted.0))
own_after (Err refused) = refused.0

abbrev pub spare_after : {D : Type 0} {g : Ghosts D} → Result (Book D g × Fold D g × Past × ℕ) (D × D × PairNo) → D
spare_after (Ok mounted) = spare_disk mounted.1 (disk_of (journal_of mounted.0))
spare_after (Err refused) = refused.1

-- A pair was mounted as a ledger's, by its active disk. From now on each image of that one has the records, and the other keeps
-- what it had.
pub record MountsLedgerPair {D : Type 0} {g : Ghosts D} (table : Table) (limit : ℕ) (told spare_told : Option (List ℕ)) (book : Book D g) (fold : Fold D g) (past : Past) (epoch : ℕ) : Type 0 where
  pub mounts : MountsLedger (number_at (swapped_in fold) 0) table limit (active_told kind.Ledger 0 told spare_told (swapped_in fold)) (records_of book) past epoch
  pub opens : OpensFold kind.Ledger 0 told spare_told fold mounts.found
  pub keeps : IsSome (active_told kind.Ledger 0 told spare_told (swapped_in fold)) → Keeps (journal_of book) (records_of book)

-- a mounting may be refused: for the pair's first fault
abbrev pub IsLedgerPairNo : Table → ℕ → Option (List ℕ) → Option (List ℕ) → PairNo → Type 0
IsLedgerPairNo table limit told spare_told refusal = IsMountNo kind.Ledger 0 told spare_told (λ disk bodies fault. IsLedgerFault disk table limit bodies fault) refusal

-- what a refusal over a disk is to the mounting of its pair
abbrev pub pair_no : ℕ → LedgerNo → PairNo
pair_no disk ledger_no.Disk = Disk disk
pair_no disk (ledger_no.Image bad) = Image bad
pair_no disk (ledger_no.Full place) = Image (record { disk = disk; fault = image.Full place })
pair_no disk (ledger_no.Short short) = Memory
