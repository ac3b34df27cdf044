-- What the mountings of a store's disks found: at place 0 stands one of the ledger's, at place c + 1 one of copy c's.
use Rattle.std.specs.Prelude.{ℕ, ◌≡◌, ◌+◌, ◌<◌, ◌≤◌, ◌^◌, ◌⊎◌, List, [], length, map, slice_index_or, Option, IfSome, IsSome}
use Rattle.qc_config.specs.Val.{Datum}
use Rattle.qc_codec.specs.Bodies as body
use Rattle.qc_codec.specs.Fields.{current_format}
use Rattle.qc_codec.specs.declared.past.Logged.{Logged}
use Rattle.qc_codec.specs.declared.past.Past.{Past as Logs}
use Rattle.qc_config.specs.declared.tuple.Tuple.{Tuple}
use Rattle.qc_event.specs.declared.table.Table.{Table}
use Rattle.qc_event.specs.History.{Past}
use Rattle.qc_event.specs.Tables.{first_tuple, setting_of}
use Rattle.qc_journal.specs.Image.{HasRecords}
use Rattle.qc_ledger.specs.Mounted as ledger
use Rattle.qc_refine.specs.Images.{CarryFinal, IsCopyImage}
use Rattle.qc_refine.specs.Standing.{AreNext, committed_too}
use Rattle.qc_site.specs.Image.{AreBytes}
use Rattle.qc_site.specs.Mounted as copies
use Rattle.qc_site.specs.Renewal.{restored_in}
use Rattle.qc_system.specs.Left.{KeepsGrants, KeepsTops}

-- Of each disk one image, which tells what the disk keeps of a history behind these records.
pub record AreKept (table : Table) (base : List (List Tuple)) (records : ℕ → List (List ℕ)) (past : Past) (images : List (List ℕ)) : Type 0 where
  pub as_many : length images ≡ table.copies + 1
  pub ledger : ∥ KeepsTops (records 0) (λ image. image ≡ slice_index_or images 0 []) past ∥₁
  pub copies : (copy : ℕ) → copy < table.copies
      → ∥ KeepsGrants (setting_of table base) (length base) copy (records (copy + 1)) (λ image. image ≡ slice_index_or images (copy + 1) []) past ∥₁

-- Tuples carry the serial machine's values after a history and the commits of tops that may come next.
pub record CarryNext (table : Table) (values : List Datum) (past : Past) (tuples : List (List Tuple)) : Type 0 where
  pub more : List Logged
  pub next : AreNext past more
  pub carry : CarryFinal table values (committed_too past more) tuples

-- An image is left of another by a mounting that was cut off: it has the same records, and some first ones of those that
-- a mounting writes behind them.
pub record IsCutOff (written : List (List ℕ) → List (List ℕ)) (image later : List ℕ) : Type 0 where
  pub found : List (List ℕ)
  pub had : HasRecords found image
  pub has : ledger.HasSome found (written found) later

-- the disk at each place has a number
module _ (disk : ℕ → ℕ) where
  -- A store was mounted over disks that told this: the ledger for an epoch, and each copy behind the ledger's past. Then they
  -- have these records, and the copies start with what these restore.
  pub record MountedOn (table : Table) (told : ℕ → Option (List ℕ)) (records : ℕ → List (List ℕ)) (epoch : ℕ) (base : List (List Tuple)) : Type 0 where
    pub past : Logs
    pub limit : ℕ → ℕ
    pub proper : (body.table current_format).fits table
    pub small : epoch < 2 ^ 32
    pub bytes : (place : ℕ) → place ≤ table.copies → AreBytes (records place)
    pub ledger : ledger.MountsLedger (disk 0) table (limit 0) (told 0) (records 0) past epoch
    pub copies : (copy : ℕ) → copy < table.copies → copies.MountsCopy (disk (copy + 1)) table past (limit (copy + 1)) current_format (told (copy + 1)) (records (copy + 1))
    pub as_many : length base ≡ table.copies
    pub starts : (copy : ℕ) → copy < table.copies
        → slice_index_or base copy [] ≡ restored_in past.tops table (records (copy + 1))

  -- The copies' disks told images on which no grant stands: they were empty, or of a store that was just made.
  abbrev pub HaveNoGrantsOn : Table → (ℕ → Option (List ℕ)) → Type 0
  HaveNoGrantsOn table told = (copy : ℕ) → copy < table.copies
      → IsSome (told (copy + 1)) × IfSome (told (copy + 1)) (λ image. HasRecords [] image ⊎ IsCopyImage table (map first_tuple table.records) [] (disk (copy + 1)) image)
