-- What is true of a saved trail.
use Rattle.std.specs.Prelude.{ℕ, ◌≡◌, List, [], length, reverse, None, Some}
use Rattle.qc_config.specs.Val.{Datum}
use Rattle.qc_codec.specs.declared.fault.CodecNo.{CodecNo}
use Rattle.qc_codec.specs.declared.fault.CodecNo.TheVariants as codec_no
use Rattle.qc_event.specs.declared.table.Table.{Table}
use Rattle.qc_event.specs.Legal.{Legal}
use Rattle.qc_event.specs.Sound.{IsSound}
use Rattle.qc_event.specs.Tables.{setting_of}
use Rattle.qc_report.specs.LastValues.{values_by_version}
use Rattle.qc_serial.specs.declared.event.SerialEvent.{SerialEvent}
use Rattle.qc_serial.specs.Machine.{begin, first_refused}
use Rattle.qc_serial.specs.Walk.{walk}
use Rattle.qc_trail_codec.specs.declared.record.SavedTrail.{SavedTrail}
use Rattle.qc_audit.specs.declared.verdict.AuditNo.{AuditNo}
use Rattle.qc_audit.specs.declared.verdict.AuditNo.TheVariants as audit_no
use Rattle.qc_audit.specs.declared.verdict.Verdict.{Verdict}
use Rattle.qc_audit.specs.declared.verdict.Verdict.TheVariants.{Serial, Illegal, Unserial}
use Rattle.qc_audit.specs.Illegal.{IsFirstIllegal}
use Rattle.qc_audit.specs.Saved.{IsSaved}

-- what a reader's refusal is to the audit
abbrev pub no_of : CodecNo → AuditNo
no_of codec_no.Bad = audit_no.Malformed
no_of codec_no.Memory = audit_no.Memory

-- the entries are a legal history over the table
abbrev pub IsLegal : Table → SavedTrail → Type 0
IsLegal table trail = Legal (setting_of table trail.base) (reverse trail.entries)

-- the serial order of the whole trail
abbrev pub order_of : SavedTrail → List SerialEvent
order_of trail = walk (reverse trail.entries) []

-- the values with which the serial machine begins: those of the greatest versions of the base, of equals the least
-- copy's
abbrev pub start_values : Table → SavedTrail → List Datum
start_values table trail = values_by_version trail.base [] (length table.records)

-- The trail is legal, and the serial machine accepts its order.
pub record IsSerial (table : Table) (trail : SavedTrail) : Type 0 where
  pub legal : IsLegal table trail
  pub accepted : first_refused (begin (start_values table trail)) (order_of trail) ≡ None

-- The trail is legal, and the machine refuses an event of its order first. Then the copies carried no map of values
-- when it began.
pub record IsUnserial (table : Table) (trail : SavedTrail) (place : ℕ) : Type 0 where
  pub legal : IsLegal table trail
  pub refused : first_refused (begin (start_values table trail)) (order_of trail) ≡ Some place
  pub unsound : (values : List Datum) → IsSound (setting_of table trail.base) values → ⊥

-- a verdict on a saved trail is true
abbrev pub IsTrueOf : Table → SavedTrail → Verdict → Type 0
IsTrueOf table trail (Serial told entries events) = (told ≡ table) × (entries ≡ length trail.entries) × (events ≡ order_of trail) × IsSerial table trail
IsTrueOf table trail (Illegal entry) = IsFirstIllegal (setting_of table trail.base) trail.entries entry
IsTrueOf table trail (Unserial place) = IsUnserial table trail place

-- The bytes are a saved trail of which the verdict is true.
pub record Judges (bytes : List ℕ) (verdict : Verdict) : Type 0 where
  pub table : Table
  pub trail : SavedTrail
  pub saved : IsSaved table trail bytes
  pub is_true : IsTrueOf table trail verdict
