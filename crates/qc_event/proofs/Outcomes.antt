-- An end that is told by its outcome.
use Rattle.std.proofs.Common.{◌≡◌, true, false, sym}
use mathlib.Core.Bool.{true≢false}
use Rattle.std.specs.Prelude.{Option, None, Some, MatchOption}
use Rattle.qc_event.specs.declared.event.How.{How}
use Rattle.qc_event.specs.declared.event.How.TheVariants.{Commit, Abort}
use Rattle.qc_event.specs.Dead.{outcome_of, is_aborted}
use Rattle.qc_event.specs.Standing.{IsAbort}

pub aborted_is_abort : (o : Option How) → is_aborted (outcome_of o) ≡ true → MatchOption o ⊥ IsAbort
aborted_is_abort None h = absurd (true≢false (sym h))
aborted_is_abort (Some (Commit given)) h = absurd (true≢false (sym h))
aborted_is_abort (Some (Abort cause)) h = tt

pub abort_or_alive : (o : Option How) → MatchOption o ⊥ IsAbort → is_aborted (outcome_of o) ≡ false → ⊥
abort_or_alive None abort alive = abort
abort_or_alive (Some (Commit given)) abort alive = abort
abort_or_alive (Some (Abort cause)) abort alive = true≢false alive
