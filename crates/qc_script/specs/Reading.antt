-- What a reader of scripts answers.
use Rattle.std.specs.Prelude.{ℕ, ◌≡◌, ◌<◌, ◌≤◌, ◌^◌, List, length, map, Some, Result, Ok, Err, IsUtf8}
use Rattle.std.specs.Borrow.{Bor}
use Rattle.std.specs.List.{AllByRecursion}
use Rattle.serde_json.specs.Data.{Data}
use Rattle.serde_json.specs.Read.{read}
use Rattle.qc_event.specs.Base.{IsConfigFor}
use Rattle.qc_event.specs.declared.table.Row.{Row}
use Rattle.qc_script.specs.JsonText.{Read}
use Rattle.qc_script.specs.ScriptText.{script_of}
use Rattle.qc_script.specs.Plan.{ScriptPlan, SessionsWithin}
use Rattle.qc_script.specs.BodyNumbers.{SessionsNumberedOn}
use Rattle.qc_script.specs.declared.bad_script.BadScript.{BadScript}
use Rattle.qc_script.specs.declared.bad_script.BadScript.TheVariants.{NotJson, TooLong, Memory}

-- The bytes are a JSON text, of this value.
pub record IsJson (bytes : List ℕ) (d : Data) : Type 0 where
  pub utf8 : IsUtf8 bytes
  pub reads : read bytes ≡ Some d

-- bytes that are not too long, and are a JSON text, from which this is read
pub record IsRead (bytes : List ℕ) (answer : Read ScriptPlan) : Type 0 where
  pub short : length bytes ≤ 2 ^ 20
  pub value : Data
  pub json : IsJson bytes value
  pub reads : script_of value ≡ answer

-- the bytes are this script
abbrev pub IsScript : List ℕ → ScriptPlan → Type 0
IsScript bytes s = IsRead bytes (Ok s)

-- bytes that are not too long, and are no JSON text
pub record IsNoJson (bytes : List ℕ) : Type 0 where
  pub short : length bytes ≤ 2 ^ 20
  pub none : (d : Data) → IsJson bytes d → ⊥

-- The bytes are refused for this cause. Want of memory says nothing of them.
abbrev pub ScriptIsRefused : List ℕ → BadScript → Type 0
ScriptIsRefused bytes TooLong = 2 ^ 20 < length bytes
ScriptIsRefused bytes NotJson = IsNoJson bytes
ScriptIsRefused bytes Memory = Unit {0}
ScriptIsRefused bytes e = IsRead bytes (Err e)

-- What a reader of a part returned, seen by view, is what the part reads as, unless memory ran out.
abbrev pub Fails : {Y : Type 0} → BadScript → Read Y → Type 0
Fails Memory read = Unit {0}
Fails NotJson read = ⊥
Fails TooLong read = ⊥
Fails e read = read ≡ Err e

abbrev pub Gives : {X Y : Type 0} → (X → Y) → Result X BadScript → Read Y → Type 0
Gives view (Ok x) read = read ≡ Ok (view x)
Gives view (Err e) read = Fails e read

-- the texts behind references
abbrev pub texts_of : List (Bor (List ℕ)) → List (List ℕ)
texts_of names = map (λ n. n.now) names

-- a record at so many copies with a legal configuration
abbrev pub IsProperRow : ℕ → Row → Type 0
IsProperRow copies row = IsConfigFor copies row.config

-- A script with 1 to 16 copies, 1 to 64 records and 1 to 16 sessions, whose senders wait for 1 to 64 due steps, whose
-- sessions are about these records at these copies, and whose bodies are numbered from 0 on through all sessions.
pub record IsProper (s : ScriptPlan) : Type 0 where
  pub some_copy : 0 < s.table.copies
  pub few_copies : s.table.copies ≤ 16
  pub some_patience : 0 < s.patience
  pub little_patience : s.patience ≤ 64
  pub some_records : 0 < length s.table.records
  pub few_records : length s.table.records ≤ 64
  pub rows : AllByRecursion (IsProperRow s.table.copies) s.table.records
  pub some_sessions : 0 < length s.sessions
  pub few_sessions : length s.sessions ≤ 16
  pub sessions : SessionsWithin s.table.copies (length s.table.records) s.sessions
  pub numbered : SessionsNumberedOn 0 s.sessions
