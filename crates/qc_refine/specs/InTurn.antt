-- Complete managers one after another: what they were given, and the values and the copies after them.
use Rattle.std.specs.Prelude.{ℕ, ◌≡◌, ◌<◌, List, [], ◌∷◌, ◌++◌, length, All, map, flat_map, slice_get, slice_set, Some}
use Rattle.std.specs.List.{range_with_len}
use Rattle.qc_config.specs.Config.{Voting}
use Rattle.qc_config.specs.Val.{Datum}
use Rattle.qc_config.specs.declared.tuple.Tuple.{Tuple}
use Rattle.qc_event.specs.Base.{Setting, first_of}
use Rattle.qc_event.specs.History.{Given}
use Rattle.qc_event.specs.Manager.{record_of}
use Rattle.qc_event.specs.Sound.{IsSound}
use Rattle.qc_event.specs.declared.event.Answer.{Answer}
use Rattle.qc_event.specs.declared.event.Answer.TheVariants.{Nothing, Value, Generation}
use Rattle.qc_event.specs.declared.event.Kind.{Kind}
use Rattle.qc_event.specs.declared.event.Kind.TheVariants.{Read, Write, Reconf}
use Rattle.qc_serial.specs.Visible.{left_at}
use Rattle.qc_refine.specs.Completed.{ReadDone, WriteDone, MoveDone}

-- a manager that is done: its kind, its answer, and what it was given, in order
pub record Done : Type 0 where
  pub kind : Kind
  pub answer : Answer
  pub given : List Given

-- a manager of a kind that is complete, by its record's first configuration
abbrev pub Complete : Voting → Kind → Answer → List Given → Type 0
Complete first (Read rec) (Value value) gs = ReadDone first value gs
Complete first (Write rec value) Nothing gs = WriteDone first value gs
Complete first (Reconf rec config) (Generation generation) gs = MoveDone first config generation gs
Complete first kind answer gs = ⊥

-- a grant of a record at a copy that is there
pub record IsAt (setting : Setting) (rec : ℕ) (g : Given) : Type 0 where
  pub copy_there : g.copy < length setting.base
  pub of_record : g.grant.rec ≡ rec

-- A manager is complete at its record.
pub record IsDone (setting : Setting) (d : Done) : Type 0 where
  pub record_there : record_of d.kind < length setting.firsts
  pub at_record : All (IsAt setting (record_of d.kind)) d.given
  pub complete : Complete (first_of setting (record_of d.kind)) d.kind d.answer d.given

-- what managers were given, in turn
abbrev pub given_to : List Done → List Given
given_to dones = flat_map (λ (d : Done). d.given) dones

-- the values after a manager of a kind
abbrev pub values_by : List Datum → Kind → List Datum
values_by values (Write rec value) = slice_set values rec value
values_by values kind = values

-- the values after managers
abbrev pub values_after : List Datum → List Done → List Datum
values_after values [] = values
values_after values (d ∷ dones) = values_after (values_by values d.kind) dones

-- a read's answer is the value of its record
abbrev pub AnswersValue : List Datum → Kind → Answer → Type 0
AnswersValue values (Read rec) (Value value) = slice_get values rec ≡ Some value
AnswersValue values (Read rec) answer = ⊥
AnswersValue values kind answer = Unit {0}

-- each read's answer is the value of its record when it comes
abbrev pub AnswerValues : List Datum → List Done → Type 0
AnswerValues values [] = Unit {0}
AnswerValues values (d ∷ dones) = AnswersValue values d.kind d.answer × AnswerValues (values_by values d.kind) dones

-- the tuples that grants leave, by copy and record
abbrev pub left_base : Setting → List Given → List (List Tuple)
left_base setting given = map (λ copy. map (λ rec. left_at setting.base given copy rec) (range_with_len 0 (length setting.firsts))) (range_with_len 0 (length setting.base))

-- what a run starts from where grants were given before
abbrev pub left_setting : Setting → List Given → Setting
left_setting setting given = record { firsts = setting.firsts; base = left_base setting given }

-- A manager comes after others: what it finds and what it leaves is sound, for the values before it and after
-- it, and where it reads it answers its record's value.
pub record KeepsSound (setting : Setting) (values : List Datum) (earlier : List Done) (d : Done) : Type 0 where
  pub finds : IsSound (left_setting setting (given_to earlier)) (values_after values earlier)
  pub answers : AnswersValue (values_after values earlier) d.kind d.answer
  pub leaves : IsSound (left_setting setting (given_to (earlier ++ d ∷ []))) (values_after values (earlier ++ d ∷ []))
