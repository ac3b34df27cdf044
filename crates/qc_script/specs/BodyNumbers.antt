-- How bodies are numbered: one after another in the order in which they begin in a script, each before those in it.
use Rattle.std.specs.Prelude.{ℕ, ◌+◌, ◌≡◌, List, [], ◌∷◌}
use Rattle.qc_event.specs.declared.event.Answer.{Answer}
use Rattle.qc_script.specs.Plan.{Plan, SessionPlan, row_of}

-- Whatever is answered, the bodies of a plan, at every depth, have the numbers from the first of these up to below the
-- second, in order.
abbrev pub NumberedOn : ℕ → ℕ → Plan → Type 0
NumberedOn next after Plan.done = next ≡ after
NumberedOn next after (Plan.manage_by k rest) = (given : Answer) → NumberedOn next after (rest given)
NumberedOn next after (Plan.child_then number tries must inner rest) =
    (number ≡ next) × ((between : ℕ) × NumberedOn (next + 1) between inner × NumberedOn between after rest)
NumberedOn next after (Plan.par_then branches rest) = (between : ℕ) × NumberedOn next between branches × NumberedOn between after rest
NumberedOn next after (Plan.abort_then levels rest) = NumberedOn next after rest
NumberedOn next after (Plan.crash_then copy rest) = NumberedOn next after rest
NumberedOn next after (Plan.kill_then session rest) = NumberedOn next after rest

-- the bodies of sessions, the first of which has this number
abbrev pub SessionsNumberedOn : ℕ → List SessionPlan → Type 0
SessionsNumberedOn next [] = Unit {0}
SessionsNumberedOn next (s ∷ sessions) = (after : ℕ) × NumberedOn next after (row_of s.tops) × SessionsNumberedOn after sessions
