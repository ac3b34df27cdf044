-- What a user transaction has a manager do, and what it answers.
use Rattle.std.specs.Prelude.{ℕ, ◌≡◌}
use Rattle.qc_config.specs.Val.{Datum}
use Rattle.qc_event.specs.declared.event.Answer.{Answer}
use Rattle.qc_event.specs.declared.event.Answer.TheVariants as answer
use Rattle.qc_event.specs.declared.event.Kind.{Kind}
use Rattle.qc_event.specs.declared.event.Kind.TheVariants as kind
use Rattle.qc_script.specs.declared.managed.Managed.{Managed}
use Rattle.qc_script.specs.declared.managed.Managed.TheVariants as managed

-- the kind of manager that does it
abbrev pub manager_for : Managed → Kind
manager_for (managed.Read rec) = kind.Read rec
manager_for (managed.Write rec value) = kind.Write rec value
manager_for (managed.Reconf rec config) = kind.Reconf rec config

-- what that manager may answer
abbrev pub IsAnswerTo : Managed → Answer → Type 0
IsAnswerTo (managed.Read rec) given = (value : Datum) × (given ≡ answer.Value value)
IsAnswerTo (managed.Write rec value) given = given ≡ answer.Nothing
IsAnswerTo (managed.Reconf rec config) given = (generation : ℕ) × (given ≡ answer.Generation generation)
