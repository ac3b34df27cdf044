-- When images of pairs of disks stand beside a history, and what they restore. The image of disk w is at place w; those of
-- the spares stand behind them, in the same order.
use Rattle.std.specs.Prelude.{ℕ, ◌≡◌, ◌+◌, ◌<◌, ◌≤◌, ◌⊎◌, List, [], ◌∷◌, ◌++◌, length, map, slice_index_or, All}
use Rattle.std.specs.List.{filter_map, range_with_len}
use Rattle.qc_codec.specs.Base.{active, active_disk, base_in, copy_base, current_copy_base, current_ledger_base, ledger_base, tuples_of_base}
use Rattle.qc_codec.specs.Bodies as body
use Rattle.qc_codec.specs.Copy.{granted_in}
use Rattle.qc_codec.specs.Form.{Form}
use Rattle.qc_codec.specs.Ledger.{logged_in, made_for, readings}
use Rattle.qc_codec.specs.declared.record.BaseRecord.{BaseRecord}
use Rattle.qc_codec.specs.declared.record.Made.{Made}
use Rattle.qc_config.specs.declared.tuple.Tuple.{Tuple}
use Rattle.qc_event.specs.declared.table.Table.{Table}
use Rattle.qc_event.specs.History.{Past}
use Rattle.qc_event.specs.Standing.{HasEnded}
use Rattle.qc_event.specs.Tables.{first_tuple, setting_of}
use Rattle.qc_journal.specs.Image.{HasRecords}
use Rattle.qc_refine.specs.Folded.{begins, seen_row}
use Rattle.qc_refine.specs.Images.{IsCopyBodies, IsLedgerBodies}
use Rattle.qc_refine.specs.Listed.{logged}
use Rattle.qc_refine.specs.Restored.{Kept, granted_at, restored}
use Rattle.qc_refine.specs.Standing.{IsAskedOf, StandBeside}

-- PAIRS

-- The images of a disk and its spare have bodies of which the active ones tell this.
pub record TellsPair (form : Made → Form BaseRecord) (disk : ℕ) (Tells : ℕ → List (List ℕ) → Type 0) (image image' : List ℕ) : Type 0 where
  pub own : List (List ℕ)
  pub spare : List (List ℕ)
  pub has : HasRecords own image
  pub has_spare : HasRecords spare image'
  pub tells : Tells (active_disk form own spare disk) (active form own spare)

-- WHAT STANDS IN FOLDED BODIES

-- Where it was folded they tell an epoch alone.
pub record IsFoldedLedger (table : Table) (epoch : ℕ) (disk : ℕ) (bodies : List (List ℕ)) : Type 0 where
  pub base : BaseRecord
  pub of_epoch : base.epoch ≡ epoch
  pub made_fits : body.made.fits (made_for disk table)
  pub base_fits : (current_ledger_base table).fits base
  pub are : bodies ≡ body.made.spell (made_for disk table) ∷ (current_ledger_base table).spell base ∷ []

-- Where it was folded they tell with what it begins alone, and the epoch.
pub record IsFoldedCopy (table : Table) (epoch : ℕ) (held : List Tuple) (disk : ℕ) (bodies : List (List ℕ)) : Type 0 where
  pub base : BaseRecord
  pub of_epoch : base.epoch ≡ epoch
  pub holds : base.tuples ≡ held
  pub made_fits : body.made.fits (made_for disk table)
  pub base_fits : (current_copy_base table).fits base
  pub are : bodies ≡ body.made.spell (made_for disk table) ∷ (current_copy_base table).spell base ∷ []

-- STANDING

module _ (table : Table) (images : List (List ℕ)) where
  -- the image of a disk, and that of its spare
  abbrev pub image_of : ℕ → List ℕ
  image_of disk = slice_index_or images disk []

  abbrev pub spare_image : ℕ → List ℕ
  spare_image disk = slice_index_or images (table.copies + 1 + disk) []

  -- the images of a copy's pair tell this
  abbrev pub TellsCopy : ℕ → (ℕ → List (List ℕ) → Type 0) → Type 0
  TellsCopy copy Tells = TellsPair copy_base (copy + 1) Tells (image_of (copy + 1)) (spare_image (copy + 1))

  -- so do those of the ledger's
  abbrev pub TellsLedger : (ℕ → List (List ℕ) → Type 0) → Type 0
  TellsLedger Tells = TellsPair ledger_base 0 Tells (image_of 0) (spare_image 0)

-- Images of pairs stand beside a history of an epoch over these start tuples. Each pair tells what it did before it and
-- what the history tells; or it was folded, once each top had its end, the ledger's only where each copy's was.
pub record StandInPairs (table : Table) (base : List (List Tuple)) (epoch : ℕ) (past : Past) (images : List (List ℕ)) : Type 0 where
  pub first : List (List Tuple)
  pub before : Kept
  pub now : Kept
  pub beside : StandBeside first epoch (setting_of table base) before now past
  pub many : length first ≡ table.copies
  pub as_many : length images ≡ table.copies + 1 + (table.copies + 1)
  pub ledger : TellsLedger table images (IsLedgerBodies table epoch before.tops (logged past ++ beside.more))
      ⊎ (HasEnded past × TellsLedger table images (IsFoldedLedger table epoch)
      × ((copy : ℕ) → copy < table.copies → TellsCopy table images copy (IsFoldedCopy table epoch (seen_row (setting_of table base) past copy))))
  pub copies : (copy : ℕ) → copy < table.copies
      → TellsCopy table images copy (IsCopyBodies table (begins first copy) (granted_at now copy))
      ⊎ (HasEnded past × TellsCopy table images copy (IsFoldedCopy table epoch (seen_row (setting_of table base) past copy)))

-- The same, with few records that the history does not tell yet: of the ledger those of at most so many tops, of a copy at most
-- one, of a grant that was asked of it.
pub record StandInPairsWithin (most : ℕ) (table : Table) (base : List (List Tuple)) (epoch : ℕ) (past : Past) (images : List (List ℕ)) : Type 0 where
  pub standing : StandInPairs table base epoch past images
  pub few_tops : length standing.beside.more ≤ most
  pub few_grants : (copy : ℕ) → copy < table.copies → length (standing.beside.untold copy) ≤ 1
  pub asked : (copy : ℕ) → copy < table.copies → All (IsAskedOf past copy) (standing.beside.untold copy)

-- FRESH IMAGES

-- A spare that was just made has no record, or only that of how it was made.
abbrev pub IsUnused : Table → ℕ → List (List ℕ) → Type 0
IsUnused table disk bodies = (bodies ≡ []) ⊎ (bodies ≡ body.made.spell (made_for disk table) ∷ [])

-- Images of pairs of a store that was just made, in its first epoch: nothing was logged, nothing granted, and no spare was used.
pub record AreFreshPairs (table : Table) (images : List (List ℕ)) : Type 0 where
  pub as_many : length images ≡ table.copies + 1 + (table.copies + 1)
  pub ledger : TellsLedger table images (IsLedgerBodies table 1 [] [])
  pub copies : (copy : ℕ) → copy < table.copies → TellsCopy table images copy (IsCopyBodies table (map first_tuple table.records) [])
  pub ledger_spare : IsUnused table 17 ledger.spare
  pub copy_spares : (copy : ℕ) (there : copy < table.copies) → IsUnused table (copy + 1 + 17) (copies copy there).spare

-- WHAT IMAGES RESTORE

module _ (table : Table) (bodies : ℕ → List (List ℕ)) where
  -- the active bodies of the ledger's pair, and of a copy's, by the places of their images
  abbrev pub ledger_bodies : List (List ℕ)
  ledger_bodies = active ledger_base (bodies 0) (bodies (table.copies + 1 + 0))

  abbrev pub copy_bodies : ℕ → List (List ℕ)
  copy_bodies copy = active copy_base (bodies (copy + 1)) (bodies (table.copies + 1 + (copy + 1)))

  -- with what the copies begin
  abbrev pub first_in : List (List Tuple)
  first_in = map (λ copy. tuples_of_base table (base_in copy_base (copy_bodies copy))) (range_with_len 0 table.copies)

  -- what the active bodies tell
  abbrev pub kept_in_pairs : Kept
  kept_in_pairs = record {
    tops = filter_map logged_in (readings body.ledger ledger_bodies);
    granted = map (λ copy. granted_in table (copy_bodies copy)) (range_with_len 0 table.copies);
  }

-- Images of pairs restore these tuples: the records of the active ones do, as they are read.
pub record RestoreInPairs (table : Table) (images : List (List ℕ)) (tuples : List (List Tuple)) : Type 0 where
  pub bodies : ℕ → List (List ℕ)
  pub has : (place : ℕ) → HasRecords (bodies place) (slice_index_or images place [])
  pub same : tuples ≡ restored (first_in table bodies) (length table.records) (kept_in_pairs table bodies)
