-- What the records of a disk's image tell, and what tuples carry that were restored of images.
use Rattle.std.specs.Prelude.{ℕ, ◌≡◌, ◌+◌, ◌-◌, ◌<◌, List, [], ◌∷◌, ◌++◌, length, map, slice_get, All, Option, Some, option_to_list}
use Rattle.std.specs.List.{filter_map, range_with_len}
use Rattle.qc_config.specs.Val.{Datum}
use Rattle.qc_codec.specs.Base.{current_copy_base, epoch_of_base, ledger_base, tuples_of_base}
use Rattle.qc_codec.specs.Bodies as body
use Rattle.qc_codec.specs.Copy.{grant_form}
use Rattle.qc_codec.specs.Ledger.{logged_in, made_for, made_in, record_of_top}
use Rattle.qc_codec.specs.declared.past.Logged.{Logged}
use Rattle.qc_codec.specs.declared.record.BaseRecord.{BaseRecord}
use Rattle.qc_codec.specs.declared.record.LedgerRecord.{LedgerRecord}
use Rattle.qc_codec.specs.declared.record.LedgerRecord.TheVariants as ledger_record
use Rattle.qc_config.specs.declared.tuple.Tuple.{Tuple}
use Rattle.qc_event.specs.declared.event.Grant.{Grant}
use Rattle.qc_event.specs.declared.table.Table.{Table}
use Rattle.qc_event.specs.History.{Past}
use Rattle.qc_event.specs.Sound.{IsSound}
use Rattle.qc_event.specs.Tables.{setting_of}
use Rattle.qc_journal.specs.Image.{HasRecords}
use Rattle.qc_serial.specs.Serial.{final_values}
use Rattle.qc_refine.specs.Restored.{restored_value}

-- WHAT STANDS IN BODIES

-- The ledger's bodies, on this disk and in some format, tell the tops from before an epoch, and those since. Its epochs count up to this, from 1 or
-- from behind its base's.
pub record IsLedgerBodies (table : Table) (epoch : ℕ) (before since : List Logged) (disk : ℕ) (bodies : List (List ℕ)) : Type 0 where
  pub format : ℕ
  pub base : Option BaseRecord
  pub old : List LedgerRecord
  pub made_once : filter_map body.made_of old ≡ []
  pub old_tops : filter_map logged_in old ≡ before
  pub epochs : filter_map body.epoch_of old ++ epoch ∷ [] ≡ range_with_len (epoch_of_base base + 1) (epoch - epoch_of_base base)
  pub made_fits : body.made.fits (made_in format disk table)
  pub base_fits : All (ledger_base (made_in format disk table)).fits (option_to_list base)
  pub fit : All body.ledger.fits (old ++ ledger_record.Epoch epoch ∷ map record_of_top since)
  pub are : bodies ≡ body.made.spell (made_in format disk table) ∷ (map (ledger_base (made_in format disk table)).spell (option_to_list base) ++ map body.ledger.spell (old ++ ledger_record.Epoch epoch ∷ map record_of_top since))

-- A copy's bodies, on this disk, tell how it was made, with what it begins, and what it granted.
pub record IsCopyBodies (table : Table) (begin : List Tuple) (granted : List Grant) (disk : ℕ) (bodies : List (List ℕ)) : Type 0 where
  pub base : Option BaseRecord
  pub begin_is : begin ≡ tuples_of_base table base
  pub made_fits : body.made.fits (made_for disk table)
  pub base_fits : All (current_copy_base table).fits (option_to_list base)
  pub grants_fit : All (grant_form table).fits granted
  pub are : bodies ≡ body.made.spell (made_for disk table) ∷ (map (current_copy_base table).spell (option_to_list base) ++ map (grant_form table).spell granted)

-- WHAT STANDS IN AN IMAGE

-- A copy's image, on the disk of this number, tells with what it begins, and what the copy granted.
pub record IsCopyImage (table : Table) (begin : List Tuple) (granted : List Grant) (disk : ℕ) (image : List ℕ) : Type 0 where
  pub bodies : List (List ℕ)
  pub tells : IsCopyBodies table begin granted disk bodies
  pub has : HasRecords bodies image

-- WHAT IS CARRIED

-- Tuples carry the serial machine's values after a history, and each value is that of the greatest version of its record.
pub record CarryFinal (table : Table) (values : List Datum) (past : Past) (tuples : List (List Tuple)) : Type 0 where
  pub sound : IsSound (setting_of table tuples) (final_values values past)
  pub greatest : (rec : ℕ) → rec < length table.records → slice_get (final_values values past) rec ≡ Some (restored_value tuples rec)
