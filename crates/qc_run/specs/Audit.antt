-- What an audit of a saved trail writes and answers.
use Rattle.std.specs.Prelude.{ℕ, ◌≡◌, ◌<◌, ◌^◌, ◌⊎◌, List, ◌++◌, length, codes, Option, IfSome}
use Rattle.std.specs.Fmt.{decimal}
use Rattle.std.specs.List.{flat_map}
use Rattle.qc_audit.specs.Saved.{IsSaved}
use Rattle.qc_audit.specs.Verdicts.{Judges}
use Rattle.qc_audit.specs.declared.verdict.Verdict.{Verdict}
use Rattle.qc_audit.specs.declared.verdict.Verdict.TheVariants as verdict
use Rattle.qc_event.specs.declared.table.Table.{Table}
use Rattle.qc_io.specs.Io.{IsAtEnd, Rose, Appends, AppendsFront, SinkView, SourceView}
use Rattle.qc_names.specs.Name as name
use Rattle.qc_report.specs.Report.{Text, record_name, value_text}
use Rattle.qc_serial.specs.declared.event.SerialEvent.{SerialEvent}
use Rattle.qc_serial.specs.declared.event.SerialEvent.TheVariants.{Start, Enter, Read, Write, Leave, Skip}
use Rattle.qc_trail_codec.specs.declared.record.SavedTrail.{SavedTrail}
use Rattle.qc_run.specs.declared.status.Status.{Status}
use Rattle.qc_run.specs.declared.status.Status.TheVariants as status

-- the most bytes of a saved trail
abbrev pub most_saved : ℕ
most_saved = 2 ^ 24

-- the line of an event of the serial order
abbrev pub event_line : Table → SerialEvent → Text
event_line table (Start n) = codes "start " ++ name.text n ++ codes "\n"
event_line table (Enter n) = codes "enter " ++ name.text n ++ codes "\n"
event_line table (Read n rec value) = codes "read " ++ name.text n ++ codes " " ++ record_name table rec ++ codes " " ++ value_text value ++ codes "\n"
event_line table (Write n rec value) = codes "write " ++ name.text n ++ codes " " ++ record_name table rec ++ codes " " ++ value_text value ++ codes "\n"
event_line table (Leave n) = codes "leave " ++ name.text n ++ codes "\n"
event_line table (Skip n) = codes "skip " ++ name.text n ++ codes "\n"

-- what is written of a verdict: how many entries there are, each event of the serial order, and how many these are; or
-- which entry is not legal, or which event the serial machine refuses
abbrev pub verdict_text : Verdict → Text
verdict_text (verdict.Serial table entries events) = codes "legal " ++ decimal entries ++ codes "\n" ++ flat_map (event_line table) events ++ codes "serial " ++ decimal (length events) ++ codes "\n"
verdict_text (verdict.Illegal entry) = codes "illegal " ++ decimal entry ++ codes "\n"
verdict_text (verdict.Unserial place) = codes "unserial " ++ decimal place ++ codes "\n"

-- the status of a verdict
abbrev pub status_of : Verdict → Status
status_of (verdict.Serial table entries events) = status.Done
status_of (verdict.Illegal entry) = status.Illegal entry
status_of (verdict.Unserial place) = status.Unserial place

-- bytes are the saved form of no table and trail
abbrev pub IsMalformed : List ℕ → Type 0
IsMalformed bytes = (table : Table) (trail : SavedTrail) → IsSaved table trail bytes → ⊥

-- bytes are no saved trail, or too many for one
abbrev pub IsNoTrail : List ℕ → Type 0
IsNoTrail bytes = (most_saved < length bytes) ⊎ IsMalformed bytes

-- A source was read to its end, and this is the verdict on its bytes.
pub record Finds (before now : Option (List ℕ)) (found : Verdict) : Type 0 where
  pub bytes : List ℕ
  pub held : IfSome before (λ left. left ≡ bytes)
  pub ended : IsAtEnd now
  pub is_verdict : Judges bytes found

-- What an audit answers, and writes: the source failed; its bytes are no saved trail; the sink failed amid what is written of
-- the verdict on them; or all of that was written.
abbrev pub IsAudited : SourceView → SourceView → SinkView → SinkView → Status → Type 0
IsAudited source now sink sink_now status.ReadFault = Rose source.faults now.faults
IsAudited source now sink sink_now status.Trail = IfSome source.left IsNoTrail
IsAudited source now sink sink_now status.WriteFault = (found : Verdict) × Finds source.left now.left found × AppendsFront sink.taken sink_now.taken (verdict_text found)
IsAudited source now sink sink_now status.Memory = Unit {0}
IsAudited source now sink sink_now answer = (found : Verdict) × Finds source.left now.left found × (answer ≡ status_of found) × Appends sink.taken sink_now.taken (verdict_text found)

-- the statuses of an audit
abbrev pub MayAudit : Status → Type 0
MayAudit status.Done = Unit {0}
MayAudit status.ReadFault = Unit {0}
MayAudit status.WriteFault = Unit {0}
MayAudit status.Memory = Unit {0}
MayAudit status.Trail = Unit {0}
MayAudit (status.Illegal entry) = Unit {0}
MayAudit (status.Unserial event) = Unit {0}
MayAudit _ = ⊥
