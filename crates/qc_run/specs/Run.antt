-- What a run answers: words for the clauses of the top call.
use Rattle.std.specs.Prelude.{ℕ, ◌+◌, ◌^◌, ◌≡◌, ◌≢◌, ◌⊎◌, true, IsTrue, List, [], length, reverse, slice_get, Option, None, Some, IfSome, is_some}
use Rattle.std.specs.List.{list_all}
use Rattle.qc_config.specs.Val.{Datum}
use Rattle.qc_audit.specs.Saved.{saved_text}
use Rattle.qc_config.specs.declared.tuple.Tuple.{Tuple}
use Rattle.qc_disk.specs.Disk.{DiskView, Rose as DiskRose}
use Rattle.qc_event.specs.History.{Past, Name, end, is_ready}
use Rattle.qc_event.specs.Sound.{IsSound}
use Rattle.qc_event.specs.Tables.{setting_of}
use Rattle.qc_event.specs.declared.event.Entry.{Entry}
use Rattle.qc_event.specs.declared.table.Table.{Table}
use Rattle.qc_interp.specs.FollowsScript.{FollowsScript, BeginsScript, started}
use Rattle.qc_io.specs.Io.{IsAtEnd, Rose, Appends, AppendsFront}
use Rattle.qc_opening.specs.Disks.{number_of}
use Rattle.qc_report.specs.LastValues.{values_by_version}
use Rattle.qc_report.specs.Report.{Text, report, summary}
use Rattle.qc_script.specs.MadePlan.{made_plan}
use Rattle.qc_script.specs.Plan.{ScriptPlan}
use Rattle.qc_script.specs.Reading.{IsScript, ScriptIsRefused}
use Rattle.qc_script.specs.declared.bad_script.BadScript.TheVariants.{Memory}
use Rattle.qc_serial.specs.Serial.{IsSerialThroughout, final_values}
use Rattle.qc_run.specs.FaultLine.{fault_line}
use Rattle.qc_run.specs.Words.{Asked, IsAudit, IsCommand, IsReading}
use Rattle.qc_run.specs.declared.finishing.Form.{Form}
use Rattle.qc_run.specs.declared.finishing.Form.TheVariants.{Report, Summary, Trail}
use Rattle.qc_run.specs.declared.ran.Ran.{Ran}
use Rattle.qc_run.specs.declared.status.Status.{Status}
use Rattle.qc_run.specs.declared.status.Status.TheVariants as status

-- the most bytes of a journal
abbrev pub journal_limit : ℕ
journal_limit = 2 ^ 40

-- one byte more than the longest script
abbrev pub most_taken : ℕ
most_taken = 2 ^ 20 + 1

-- the most bytes that are taken of the source, by what is asked for: one more than the longest script has, or the longest trail
abbrev pub most_taken_for : Asked → ℕ
most_taken_for Asked.audit = 2 ^ 24 + 1
most_taken_for _ = most_taken

-- THE SCRIPT

-- a trail follows a script, whose one session runs in an epoch
abbrev pub FollowsIn : ℕ → ScriptPlan → List Entry → Type 0
FollowsIn epoch s trail = FollowsScript epoch s.patience s.sessions (reverse trail)

abbrev pub TrailFollows : ScriptPlan → List Entry → Type 0
TrailFollows s trail = (epoch : ℕ) × FollowsIn epoch s trail

-- a trail is a beginning of one that follows a script
abbrev pub BeginsIn : ℕ → ScriptPlan → List Entry → Type 0
BeginsIn epoch s trail = BeginsScript epoch s.patience s.sessions (reverse trail)

abbrev pub Begins : ScriptPlan → List Entry → Type 0
Begins s trail = (epoch : ℕ) × BeginsIn epoch s trail

-- The source was read to its end, and its bytes are this script.
pub record ReadsScript (before now : Option (List ℕ)) (s : ScriptPlan) : Type 0 where
  pub bytes : List ℕ
  pub held : IfSome before (λ left. left ≡ bytes)
  pub ended : IsAtEnd now
  pub is_script : IsScript bytes s

-- What was asked for is to run this script: the one that the source held, and it was read; or the one that is made of a
-- number.
abbrev pub IsScriptOf : Option (List ℕ) → Option (List ℕ) → ScriptPlan → Asked → Type 0
IsScriptOf before now s (Asked.read_at place mode form) = ReadsScript before now s
IsScriptOf before now s (Asked.made_of n) = s ≡ made_plan n
IsScriptOf before now s Asked.audit = ⊥

-- These words are a command, and this is the script that it runs.
pub record RunsScript (words : List Text) (before now : Option (List ℕ)) (s : ScriptPlan) : Type 0 where
  pub asked : Asked
  pub is_command : IsCommand words asked
  pub is_script : IsScriptOf before now s asked

-- there is a script that the words run, and it is so of the script
abbrev pub OfScript : List Text → Option (List ℕ) → Option (List ℕ) → (ScriptPlan → Type 0) → Type 0
OfScript words before now IsSo = (s : ScriptPlan) × RunsScript words before now s × IsSo s

-- nothing was begun: there are no start tuples and no history
abbrev pub NoneBegun : List (List Tuple) → List Entry → Type 0
NoneBegun start trail = (start ≡ []) × (trail ≡ [])

-- What is asked for is to run this script: the one that all bytes of the source are, or the one that is made of a number.
abbrev pub IsScriptFor : Option (List ℕ) → ScriptPlan → Asked → Type 0
IsScriptFor left s (Asked.read_at place mode form) = (bytes : List ℕ) × (left ≡ Some bytes) × IsScript bytes s
IsScriptFor left s (Asked.made_of n) = s ≡ made_plan n
IsScriptFor left s Asked.audit = ⊥

-- These words are a command, over a source that holds this, and this is the script that it is to run.
pub record AsksFor (words : List Text) (left : Option (List ℕ)) (s : ScriptPlan) : Type 0 where
  pub asked : Asked
  pub is_command : IsCommand words asked
  pub is_script : IsScriptFor left s asked

-- THE HISTORY

-- Where the start is sound for a map of values over the table's first configurations, each user transaction without
-- an aborted ancestor has its serial order from that map on, at every moment.
abbrev pub HasSerialOrders : Table → List (List Tuple) → List Entry → Type 0
HasSerialOrders table start trail = (values : List Datum) → IsSound (setting_of table start) values → IsSerialThroughout values trail

-- Where the start is sound for a map with a value for each record, the last values by versions are those of the serial
-- machine from that map on.
abbrev pub HasSerialValues : Table → List (List Tuple) → List Entry → Type 0
HasSerialValues table start trail =
    (values : List Datum) → IsSound (setting_of table start) values → length values ≡ length table.records
    → values_by_version start (reverse trail) (length table.records) ≡ final_values values (reverse trail)

-- what is written of a history, by its form: a report or a summary with the last values, which go by versions, or all of it,
-- as it is saved
abbrev pub text_by : Form → Table → List (List Tuple) → List Entry → Text
text_by Report table start trail = report table (values_by_version start (reverse trail) (length table.records)) trail
text_by Summary table start trail = summary table (values_by_version start (reverse trail) (length table.records)) trail
text_by Trail table start trail = saved_text table (record { base = start; entries = trail })

-- one that is made is summed up; of one that is read is written what was asked for
abbrev pub form_of : Asked → Form
form_of (Asked.read_at place mode form) = form
form_of (Asked.made_of n) = Summary
form_of Asked.audit = Report

-- a top is in doubt: it is ready, and has no end
pub record IsInDoubt (past : Past) (top : Name) : Type 0 where
  pub ready : is_ready past top ≡ true
  pub not_ended : end past top ≡ None

-- all that was started has ended
abbrev pub AllEnded : Past → Type 0
AllEnded past = IsTrue (list_all (λ n. is_some (end past n)) (started past))

-- THE DISKS

-- The shop, whose count of faults was the one and is the other, failed at the next disk of so many copies after those that came
-- back; or the disk of this number came back, and its count rose from the one that the shop told.
abbrev pub IsDiskFault : {D : Type 0} → (D → DiskView) → ℕ → ℕ → ℕ → (ℕ → ℕ) → List D → ℕ → Type 0
IsDiskFault {D} view copies before now counts disks which =
    ((which ≡ number_of copies (length disks)) × DiskRose before now)
    ⊎ ((place : ℕ) × (disk : D) × (which ≡ number_of copies place) × (slice_get disks place ≡ Some disk) × DiskRose (counts which) (view disk).faults)

-- STATUSES

-- a report was written
abbrev pub IsReported : Status → Type 0
IsReported status.Done = Unit {0}
IsReported status.InDoubt = Unit {0}
IsReported _ = ⊥

-- the session ran to its end
abbrev pub RanToEnd : Status → Type 0
RanToEnd status.Done = Unit {0}
RanToEnd status.InDoubt = Unit {0}
RanToEnd status.WriteFault = Unit {0}
RanToEnd _ = ⊥

-- a store was mounted and the session run, whether or not it came to its end
abbrev pub HadSession : Status → Type 0
HadSession status.Room = Unit {0}
HadSession answer = RanToEnd answer

-- there was a script, and want of memory did not cut off what it did
abbrev pub HadScript : Status → Type 0
HadScript status.Done = Unit {0}
HadScript status.InDoubt = Unit {0}
HadScript status.WriteFault = Unit {0}
HadScript status.Room = Unit {0}
HadScript (status.DiskFault which) = Unit {0}
HadScript (status.Image bad) = Unit {0}
HadScript _ = ⊥

-- the source was read as far as a script may go
abbrev pub ReadWhole : Status → Type 0
ReadWhole (status.Script e) = Unit {0}
ReadWhole answer = HadScript answer

-- nothing was begun
abbrev pub BeganNothing : Status → Type 0
BeganNothing status.Usage = Unit {0}
BeganNothing (status.Script e) = Unit {0}
BeganNothing status.ReadFault = Unit {0}
BeganNothing (status.DiskFault which) = Unit {0}
BeganNothing (status.Image bad) = Unit {0}
BeganNothing status.Trail = Unit {0}
BeganNothing _ = ⊥

-- no store was mounted
abbrev pub IsNotMounted : Status → Type 0
IsNotMounted (status.DiskFault which) = Unit {0}
IsNotMounted (status.Image bad) = Unit {0}
IsNotMounted _ = ⊥

-- a fault that a line of its own tells
abbrev pub IsTold : Status → Type 0
IsTold status.Room = Unit {0}
IsTold answer = BeganNothing answer

-- a script was read, and the bytes are refused for the cause that is told, which is not want of memory
abbrev pub IsScriptFault : List Text → Option (List ℕ) → Status → Type 0
IsScriptFault words left (status.Script e) = IsReading words × IfSome left (λ bytes. ScriptIsRefused bytes e) × (e ≢ Memory)
IsScriptFault words left _ = Unit {0}

-- a script was read, or a trail, and the source failed
abbrev pub IsReadFault : List Text → ℕ → ℕ → Type 0
IsReadFault words before now = (IsReading words ⊎ IsAudit words) × Rose before now

-- what may be answered to a command that reads a script, over bytes that are none
abbrev pub IsNoRun : Status → Type 0
IsNoRun (status.Script e) = Unit {0}
IsNoRun status.ReadFault = Unit {0}
IsNoRun status.Memory = Unit {0}
IsNoRun _ = ⊥

-- what may be answered to a command where there is a script and neither stream failed
abbrev pub IsRun : Status → Type 0
IsRun status.Done = Unit {0}
IsRun status.InDoubt = Unit {0}
IsRun (status.DiskFault which) = Unit {0}
IsRun (status.Image bad) = Unit {0}
IsRun status.Memory = Unit {0}
IsRun status.Room = Unit {0}
IsRun _ = ⊥

-- what may be answered where no disk failed either, and no image had a fault
abbrev pub IsSessionRun : Status → Type 0
IsSessionRun status.Done = Unit {0}
IsSessionRun status.InDoubt = Unit {0}
IsSessionRun status.Memory = Unit {0}
IsSessionRun status.Room = Unit {0}
IsSessionRun _ = ⊥

-- a status that audits alone answer
abbrev pub IsOfAudit : Status → Type 0
IsOfAudit status.Trail = Unit {0}
IsOfAudit (status.Illegal entry) = Unit {0}
IsOfAudit (status.Unserial event) = Unit {0}
IsOfAudit _ = ⊥

-- the status, or want of memory in its place
abbrev pub IsOrMemory : Status → Status → Type 0
IsOrMemory why answer = (answer ≡ why) ⊎ (answer ≡ status.Memory)

-- RUNS

-- No session was begun: the status is not that of one, and there are no start tuples and no history.
pub record HadNoSession {D : Type 0} (ran : Ran D) : Type 0 where
  pub other : HadSession ran.status → ⊥
  pub none : NoneBegun ran.start ran.trail

-- it is so, unless the words have a trail audited
abbrev pub UnlessAudit : List Text → Type 0 → Type 0
UnlessAudit words IsSo = IsAudit words ⊎ IsSo

-- no session was begun, or there is a script that the words run, and it is so of it
abbrev pub OfRun : {D : Type 0} → List Text → Option (List ℕ) → Option (List ℕ) → Ran D → (ScriptPlan → Type 0) → Type 0
OfRun words before now ran IsSo = UnlessAudit words (HadNoSession ran ⊎ OfScript words before now IsSo)

-- the words ran no script, or none was found
abbrev pub HadNone : Status → Type 0
HadNone status.Usage = Unit {0}
HadNone (status.Script e) = Unit {0}
HadNone status.ReadFault = Unit {0}
HadNone _ = ⊥

-- THE SINK

-- A fault's line was written, all of it unless the sink failed meanwhile.
pub record TellsFault (before now : Option (List ℕ)) (faults_before faults_now : ℕ) (why : Status) : Type 0 where
  pub front : AppendsFront before now (fault_line why)
  pub whole : (Rose faults_before faults_now → ⊥) → Appends before now (fault_line why)
