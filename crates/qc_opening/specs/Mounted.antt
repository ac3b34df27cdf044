-- What the mounting of a store gives.
use Rattle.std.specs.Prelude.{ℕ, ◌≡◌, ◌+◌, false, true, not, List, ◌∷◌, ◌++◌}
use Rattle.qc_disk.specs.Disk.{DiskView}
use Rattle.qc_disk.specs.declared.disk.Disk.{Ghosts}
use Rattle.qc_codec.specs.declared.past.Past.{Past}
use Rattle.qc_event.specs.declared.table.Table.{Table}
use Rattle.qc_journal.specs.Journal.{disk_of, limit_of, IsUp}
use Rattle.qc_ledger.specs.Image as tops
use Rattle.qc_ledger.specs.Mounted as book
use Rattle.qc_ledger.specs.Pairs.{MountsLedgerPair}
use Rattle.qc_opening.specs.Disks.{IsMounted}
use Rattle.qc_opening.specs.Numbered.{PairsFrom}
use Rattle.qc_opening.specs.declared.parts.Parts.{Parts}
use Rattle.qc_pair.specs.Fold.{own_disk, spare_disk, swapped_in, IsFoldFor}
use Rattle.qc_pair.specs.Pair.{number_at}
use Rattle.qc_site.specs.Image as grants
use Rattle.qc_site.specs.Mounted as copy
use Rattle.qc_site.specs.Pairs.{MountsCopyPair}
use Rattle.qc_site.specs.Renewal.{restored_in}
use Rattle.qc_site.specs.Start.{start_of}
use Rattle.qc_system.specs.declared.parts.CopyPair.{CopyPair}
use Rattle.qc_system.specs.declared.parts.LedgerPair.{LedgerPair}

-- Both disks of a pair were mounted, and neither failed.
pub record AreMounted {D : Type 0} (view : D → DiskView) (table : Table) (Tells : Past → Type 0) (pair : ℕ) (old new : D × D) : Type 0 where
  pub own : IsMounted view table Tells pair (view old.0).content (view old.1).content false ⊥ old.0 new.0
  pub spare : IsMounted view table Tells pair (view old.0).content (view old.1).content true ⊥ old.1 new.1

module _ {D : Type 0} {g : Ghosts D} where
  -- the disk of a pair that was mounted, and its spare
  abbrev pub ledger_disks : LedgerPair D g → D × D
  ledger_disks pair = (own_disk pair.fold (disk_of (book.journal_of pair.book)), spare_disk pair.fold (disk_of (book.journal_of pair.book)))

  abbrev pub copy_disks : CopyPair D g → D × D
  copy_disks pair = (own_disk pair.fold (disk_of (copy.journal_of pair.copy)), spare_disk pair.fold (disk_of (copy.journal_of pair.copy)))

  module _ (table : Table) where
    -- A ledger was mounted from a pair of disks: what its records told before, and the epoch that it logged.
    pub record IsLedger (limit : ℕ) (disks : D × D) (ledger : LedgerPair D g) (past : Past) (epoch : ℕ) : Type 0 where
      pub mounts : MountsLedgerPair table limit (g.view disks.0).content (g.view disks.1).content ledger.book ledger.fold past epoch
      pub limit_is : limit_of (book.journal_of ledger.book) ≡ limit
      pub folds : IsFoldFor ledger.fold limit (tops.made_body (number_at (not (swapped_in ledger.fold)) 0) table) epoch table.copies
      pub left : AreMounted g.view table (λ p. p ≡ past) 0 disks (ledger_disks ledger)

    -- A copy was mounted from a pair of disks, behind a past and for an epoch: it starts with what its records restore.
    pub record IsCopy (past : Past) (epoch limit number : ℕ) (disks : D × D) (pair : CopyPair D g) : Type 0 where
      pub mounts : MountsCopyPair number table past limit (g.view disks.0).content (g.view disks.1).content pair.copy pair.fold
      pub number_is : copy.copy_of pair.copy ≡ number
      pub copies : copy.copies_of pair.copy ≡ table.copies
      pub limit_is : limit_of (copy.journal_of pair.copy) ≡ limit
      pub up : IsUp (copy.journal_of pair.copy)
      pub start : start_of pair.copy ≡ restored_in past.tops table (copy.records_of pair.copy)
      pub folds : IsFoldFor pair.fold limit (grants.made_body (number_at (not (swapped_in pair.fold)) (number + 1)) table) epoch table.copies
      pub left : AreMounted g.view table (λ p. p ≡ past) (number + 1) disks (copy_disks pair)

    -- copies were mounted from pairs of disks, one from each, in rising number from 0
    abbrev pub AreCopies : Past → ℕ → ℕ → List (D × D) → List (CopyPair D g) → Type 0
    AreCopies past epoch limit disks mounted = PairsFrom (IsCopy past epoch limit) 0 disks mounted

    -- The first of all these pairs were mounted as copies, in rising number from 0, and the others wait.
    pub record AreTaken (past : Past) (epoch limit : ℕ) (all waiting : List (D × D)) (mounted : List (CopyPair D g)) : Type 0 where
      pub taken : List (D × D)
      pub all_are : all ≡ taken ++ waiting
      pub copies_are : AreCopies past epoch limit taken mounted

    -- A ledger and copies were mounted from these pairs of disks, the copies behind what the ledger told.
    pub record IsStoreOf (limit : ℕ) (pairs : List (D × D)) (parts : Parts D g) : Type 0 where
      pub ledger_pair : D × D
      pub copy_pairs : List (D × D)
      pub pairs_are : pairs ≡ ledger_pair ∷ copy_pairs
      pub ledger_is : IsLedger limit ledger_pair parts.ledger parts.past parts.epoch
      pub copies_are : AreCopies parts.past parts.epoch limit copy_pairs parts.copies.items
