-- What the parts of an audit keep, each said once.
use Rattle.std.specs.Prelude.{ℕ, ◌≡◌, ◌<◌, ◌≤◌, ◌⊎◌, List, length}
use Rattle.qc_audit.specs.Verdicts.{Judges}
use Rattle.qc_audit.specs.declared.verdict.Verdict.{Verdict}
use Rattle.qc_io.specs.Io.{Appends, AppendsFront, SinkView}
use Rattle.qc_report.specs.Report.{Text}
use Rattle.qc_run.specs.Audit.{IsMalformed, MayAudit, most_saved, status_of, verdict_text}
use Rattle.qc_run.specs.Left.{Wrote}
use Rattle.qc_run.specs.Run.{IsOrMemory}
use Rattle.qc_run.specs.declared.status.Status.{Status}
use Rattle.qc_run.specs.declared.status.Status.TheVariants as status

-- what a status says of a verdict and of what was written of it
abbrev pub Says : SinkView → SinkView → Verdict → Status → Type 0
Says before now found status.WriteFault = AppendsFront before.taken now.taken (verdict_text found)
Says before now found status.Memory = Unit {0}
Says before now found answer = (answer ≡ status_of found) × Appends before.taken now.taken (verdict_text found)

-- A verdict was written, or the sink failed, or there was no memory.
pub record Concluded (before now : SinkView) (found : Verdict) (answer : Status) : Type 0 where
  pub may : MayAudit answer
  pub wrote : Wrote before now answer (verdict_text found)
  pub says : Says before now found answer

-- bytes are too many for a saved trail, or are none
abbrev pub AreNoTrail : List ℕ → Type 0
AreNoTrail bytes = (most_saved < length bytes) ⊎ ((length bytes ≤ most_saved) × IsMalformed bytes)

-- Bytes were refused as no saved trail, or there was no memory to say so.
pub record WereRefused (before now : SinkView) (bytes : List ℕ) (answer : Status) : Type 0 where
  pub none : AreNoTrail bytes
  pub answered : IsOrMemory status.Trail answer
  pub wrote : (text : Text) → Wrote before now answer text

-- A verdict was found on bytes, and it was concluded.
pub record WereJudged (before now : SinkView) (bytes : List ℕ) (answer : Status) : Type 0 where
  pub found : Verdict
  pub is_verdict : Judges bytes found
  pub few : length bytes ≤ most_saved
  pub concluded : Concluded before now found answer

-- There was no memory.
pub record WereLeft (before now : SinkView) (answer : Status) : Type 0 where
  pub answered : answer ≡ status.Memory
  pub wrote : (text : Text) → Wrote before now answer text

-- what is answered to bytes
abbrev pub IsAuditOf : SinkView → SinkView → List ℕ → Status → Type 0
IsAuditOf before now bytes answer = WereRefused before now bytes answer ⊎ (WereJudged before now bytes answer ⊎ WereLeft before now answer)
