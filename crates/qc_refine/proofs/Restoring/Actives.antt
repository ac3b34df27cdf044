-- Stepping stones: of each pair the active image alone. That of the ledger's is at place 0, that of copy c's at place c + 1, and the
-- image at each place is of the disk of a number.
use Rattle.std.specs.Prelude.{ℕ, ◌≡◌, ◌+◌, ◌<◌, ◌≤◌, List, [], ◌++◌, length, map, slice_index_or, All}
use Rattle.std.specs.List.{filter_map, range_with_len}
use Rattle.qc_codec.specs.Base.{base_in, copy_base, tuples_of_base}
use Rattle.qc_codec.specs.Bodies as body
use Rattle.qc_codec.specs.Copy.{granted_in}
use Rattle.qc_codec.specs.Ledger.{logged_in, readings}
use Rattle.qc_codec.specs.declared.past.Logged.{Logged}
use Rattle.qc_config.specs.declared.tuple.Tuple.{Tuple}
use Rattle.qc_event.specs.declared.table.Table.{Table}
use Rattle.qc_event.specs.History.{Past}
use Rattle.qc_event.specs.Tables.{setting_of}
use Rattle.qc_journal.specs.Image.{HasRecords}
use Rattle.qc_refine.specs.Folded.{begins}
use Rattle.qc_refine.specs.Images.{IsCopyImage, IsLedgerBodies}
use Rattle.qc_refine.specs.Listed.{logged}
use Rattle.qc_refine.specs.Pairs.{TellsCopy, TellsLedger, image_of}
use Rattle.qc_refine.specs.Restored.{Kept, granted_at, restored}
use Rattle.qc_refine.specs.Standing.{IsAskedOf, StandBeside}

-- WHICH ARE ACTIVE

-- bodies on the disk of a number are those of this image, which is of this disk
abbrev pub AreOfImage : ℕ → List ℕ → ℕ → List (List ℕ) → Type 0
AreOfImage disk image number bodies = (number ≡ disk) × HasRecords bodies image

-- Images are the active ones of pairs, the image at each place of the disk of that number.
pub record AreActive (table : Table) (disk : ℕ → ℕ) (images actives : List (List ℕ)) : Type 0 where
  pub as_many : length images ≡ table.copies + 1 + (table.copies + 1)
  pub ledger : TellsLedger table images (AreOfImage (disk 0) (image_of table actives 0))
  pub copies : (copy : ℕ) → copy < table.copies → TellsCopy table images copy (AreOfImage (disk (copy + 1)) (image_of table actives (copy + 1)))

-- WHAT STANDS

-- The ledger's image, on the disk of this number, tells the tops that it told before an epoch, and those since.
pub record IsLedgerImage (table : Table) (epoch : ℕ) (before since : List Logged) (disk : ℕ) (image : List ℕ) : Type 0 where
  pub bodies : List (List ℕ)
  pub tells : IsLedgerBodies table epoch before since disk bodies
  pub has : HasRecords bodies image

-- Taken alone, the active images stand beside a history of an epoch over these start tuples: what they tell does, with few records
-- that the history does not tell yet.
pub record ActivesStand (disk : ℕ → ℕ) (most : ℕ) (table : Table) (base : List (List Tuple)) (epoch : ℕ) (past : Past) (actives : List (List ℕ)) : Type 0 where
  pub first : List (List Tuple)
  pub before : Kept
  pub now : Kept
  pub beside : StandBeside first epoch (setting_of table base) before now past
  pub many : length first ≡ table.copies
  pub ledger : IsLedgerImage table epoch before.tops (logged past ++ beside.more) (disk 0) (slice_index_or actives 0 [])
  pub copies : (copy : ℕ) → copy < table.copies
      → IsCopyImage table (begins first copy) (granted_at now copy) (disk (copy + 1)) (slice_index_or actives (copy + 1) [])
  pub few_tops : length beside.more ≤ most
  pub few_grants : (copy : ℕ) → copy < table.copies → length (beside.untold copy) ≤ 1
  pub asked : (copy : ℕ) → copy < table.copies → All (IsAskedOf past copy) (beside.untold copy)

-- WHAT IS RESTORED

-- with what the copies begin, by the bodies at each place
abbrev pub first_told : Table → (ℕ → List (List ℕ)) → List (List Tuple)
first_told table bodies = map (λ copy. tuples_of_base table (base_in copy_base (bodies (copy + 1)))) (range_with_len 0 table.copies)

-- what bodies tell, by their place
abbrev pub kept_told : Table → (ℕ → List (List ℕ)) → Kept
kept_told table bodies = record {
  tops = filter_map logged_in (readings body.ledger (bodies 0));
  granted = map (λ copy. granted_in table (bodies (copy + 1))) (range_with_len 0 table.copies);
}

-- Taken alone, the active images restore these tuples: their records do, as they are read.
pub record ActivesRestore (table : Table) (actives : List (List ℕ)) (tuples : List (List Tuple)) : Type 0 where
  pub bodies : ℕ → List (List ℕ)
  pub has : (place : ℕ) → HasRecords (bodies place) (slice_index_or actives place [])
  pub same : tuples ≡ restored (first_told table bodies) (length table.records) (kept_told table bodies)
