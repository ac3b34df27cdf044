-- Marks of sessions.
use Rattle.std.specs.Prelude.{ℕ, ◌≡◌, ◌<◌, Bool, false, nat_le, Option, None, Some, slice_index_or}
use Rattle.qc_event.specs.History.{Past}
use Rattle.qc_event.specs.Users.{is_marked}
use Rattle.qc_history.specs.declared.marks.Marks.{Marks}

-- whether the greatest number, where there is one, is at least another
abbrev pub reaches : Option ℕ → ℕ → Bool
reaches None number = false
reaches (Some greatest) number = nat_le number greatest

-- The sessions from 0 to 15 are marked as far as their greatest numbers.
pub record AreMarksOf (past : Past) (marks : Marks) : Type 0 where
  pub each : (session number : ℕ) → session < 16 → reaches (slice_index_or marks.greatest session None) number ≡ is_marked past session number

abbrev pub AreMarks : Marks → Past → Type 0
AreMarks marks past = AreMarksOf past marks
