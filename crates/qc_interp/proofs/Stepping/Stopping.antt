-- How a transaction stops, and with what plan it came as far.
use Rattle.std.proofs.Common.{◌≡◌, inl, inr, ℕ, Bool, true, false, [], refl, sym, ap, subst}
use Rattle.std.specs.Prelude.{Option, None, Some}
use Rattle.qc_event.specs.declared.event.Cause.TheVariants as cause
use Rattle.qc_event.specs.declared.event.How.{How}
use Rattle.qc_event.specs.declared.event.How.TheVariants.{Commit, Abort}
use Rattle.qc_event.specs.History.{Past, Name, is_ready}
use Rattle.qc_script.specs.Plan.{Plan}
use Rattle.qc_interp.specs.Deeds.{Deed, deed_end}
use Rattle.qc_interp.specs.Follows.{StopsEarly, WasAsked, WasKilled, IsUnended, Stops, HasNotEnded, StopsBefore, AfterTries, AfterRow, RunsPlan, RunsRow}
use Rattle.qc_interp.specs.Reach.{Reach}
use Rattle.qc_interp.specs.Rows.{each_begun, each_tried, first_failed}
use Rattle.qc_interp.specs.Running.{CameTo}
use Rattle.qc_interp.specs.Tries.{is_tried_again}
use Rattle.qc_interp.specs.declared.stops.Finish.TheVariants as finish
use Rattle.qc_interp.proofs.Rows.SameDeeds.{none_at_once, none_begin, none_failed, none_own_seat}
use Rattle.qc_interp.proofs.Trying.TriesAlike.{no_tries}

-- who was aborted as another asked was stopped early
pub asked_early : (n : Name) (how : Option How) → WasAsked n how → StopsEarly n how
asked_early n None h = absurd h
asked_early n (Some (Commit given)) h = absurd h
asked_early n (Some (Abort (cause.Asked by))) h = h
asked_early n (Some (Abort (cause.Orphan a))) h = absurd h
asked_early n (Some (Abort (cause.Conflict copy holder))) h = absurd h
asked_early n (Some (Abort (cause.NoQuorum lack))) h = absurd h
asked_early n (Some (Abort cause.Last)) h = absurd h
asked_early n (Some (Abort cause.Killed)) h = tt
asked_early n (Some (Abort (cause.Child x))) h = absurd h
asked_early n (Some (Abort cause.Missed)) h = absurd h

-- so was who was killed
pub killed_early : (n : Name) (how : Option How) → WasKilled how → StopsEarly n how
killed_early n None h = absurd h
killed_early n (Some (Commit given)) h = absurd h
killed_early n (Some (Abort cause.Killed)) h = tt
killed_early n (Some (Abort (cause.Asked by))) h = absurd h
killed_early n (Some (Abort (cause.Orphan a))) h = absurd h
killed_early n (Some (Abort (cause.Conflict copy holder))) h = absurd h
killed_early n (Some (Abort (cause.NoQuorum lack))) h = absurd h
killed_early n (Some (Abort cause.Last)) h = absurd h
killed_early n (Some (Abort (cause.Child x))) h = absurd h
killed_early n (Some (Abort cause.Missed)) h = absurd h

-- who has not ended itself was not killed
pub unended_unkilled : (n : Name) (how : Option How) → IsUnended n how → WasKilled how → ⊥
unended_unkilled n how (inl is) h = subst WasKilled is h
unended_unkilled n None (inr s) h = h
unended_unkilled n (Some (Commit given)) (inr s) h = h
unended_unkilled n (Some (Abort cause.Killed)) (inr s) h = s
unended_unkilled n (Some (Abort (cause.Asked by))) (inr s) h = h
unended_unkilled n (Some (Abort (cause.Orphan a))) (inr s) h = h
unended_unkilled n (Some (Abort (cause.Conflict copy holder))) (inr s) h = h
unended_unkilled n (Some (Abort (cause.NoQuorum lack))) (inr s) h = h
unended_unkilled n (Some (Abort cause.Last)) (inr s) h = h
unended_unkilled n (Some (Abort (cause.Child x))) (inr s) h = h
unended_unkilled n (Some (Abort cause.Missed)) (inr s) h = h

-- who has not ended itself is not tried again
pub unended_again : (n : Name) (how : Option How) → IsUnended n how → is_tried_again how ≡ false
unended_again n how (inl is) = ap is_tried_again is
unended_again n None (inr h) = refl
unended_again n (Some (Commit given)) (inr h) = refl
unended_again n (Some (Abort (cause.Asked by))) (inr h) = refl
unended_again n (Some (Abort (cause.Orphan a))) (inr h) = absurd h
unended_again n (Some (Abort (cause.Conflict copy holder))) (inr h) = absurd h
unended_again n (Some (Abort (cause.NoQuorum lack))) (inr h) = absurd h
unended_again n (Some (Abort cause.Last)) (inr h) = absurd h
unended_again n (Some (Abort cause.Killed)) (inr h) = absurd h
unended_again n (Some (Abort (cause.Child x))) (inr h) = absurd h
unended_again n (Some (Abort cause.Missed)) (inr h) = absurd h

pub unended_stopped : (n : Name) (how : Option How) → IsUnended n how → CameTo (finish.Stopped false) how
unended_stopped n None h = refl
unended_stopped n (Some (Commit given)) h = elim h [
  | inl is ↦ absurd cc
  | inr s ↦ absurd s
]
unended_stopped n (Some (Abort x)) h = sym (unended_again n (Some (Abort x)) h)

-- who has not ended itself and is not ready stops where the run was cut off
pub running_stops : (past : Past) (n : Name) (how : Option How) → IsUnended n how → is_ready past n ≡ false → Stops Reach.cut_off past n how
running_stops past n how (inl none) unready = inr (none, unready)
running_stops past n how (inr asked) unready = inl (asked_early n how asked)

pub running_unended : (past : Past) (n : Name) (how : Option How) → IsUnended n how → is_ready past n ≡ false → HasNotEnded Reach.cut_off past n how
running_unended past n how (inl none) unready = inr (none, unready)
running_unended past n how (inr asked) unready = inl asked

-- who stopped before a step stopped
pub before_stops : (reach : Reach) (past : Past) (n : Name) (how : Option How) → StopsBefore reach past n how → Stops reach past n how
before_stops Reach.to_the_end past n how (inl asked) = asked_early n how asked
before_stops Reach.cut_off past n how (inl (inl asked)) = inl (asked_early n how asked)
before_stops Reach.cut_off past n how (inl (inr runs)) = inr runs
before_stops Reach.to_the_end past n how (inr killed) = killed_early n how killed
before_stops Reach.cut_off past n how (inr killed) = inl (killed_early n how killed)

no_row : (reach : Reach) (s : ℕ) (past : Past) (all_begun : Bool) (branches : Plan) → RunsRow reach s past all_begun branches []
no_row reach s past all_begun (Plan.child_then number tries must inner others) = (tt, no_row reach s past all_begun others)
no_row reach s past all_begun _ = tt

stopped_row : (reach : Reach) (past : Past) (n : Name) (how : Option How) → StopsBefore reach past n how → (tried : Bool) (failed : Option Deed) → failed ≡ None → (Rest : Type 0) → Rest → AfterRow reach past n tried failed Rest [] how
stopped_row reach past n how stops true failed none Rest behind = subst (λ o. AfterTries reach past n o true Rest [] how) (sym none) behind
stopped_row reach past n how stops false failed none Rest behind = (refl, before_stops reach past n how stops)

-- and where it did nothing it came as far with any plan
pub stopped_runs : (reach : Reach) (s : ℕ) (past : Past) (n : Name) (how : Option How) → StopsBefore reach past n how → (plan : Plan) → RunsPlan reach s past n plan [] how
stopped_runs reach s past n how stops Plan.done = inr (before_stops reach past n how stops)
stopped_runs reach s past n how stops (Plan.manage_by k next) = before_stops reach past n how stops
stopped_runs reach s past n how stops (Plan.child_then number tries must inner rest) =
    no_tries (deed_end past) _ (Stops reach past n how) (λ last further. AfterTries reach past n last must (RunsPlan reach s past n rest further how) further how) None (before_stops reach past n how stops) (stopped_runs reach s past n how stops rest) tries
stopped_runs reach s past n how stops (Plan.par_then branches rest) = (
  [],
  [],
  refl,
  (none_at_once past branches, none_own_seat past branches, none_begin past branches, refl),
  no_row reach s past (each_begun past branches []) branches,
  stopped_row reach past n how stops (each_tried past false branches []) (first_failed past branches []) (none_failed past branches) (RunsPlan reach s past n rest [] how) (stopped_runs reach s past n how stops rest),
)
stopped_runs reach s past n how stops (Plan.abort_then levels rest) = inr stops
stopped_runs reach s past n how stops (Plan.crash_then copy rest) = stopped_runs reach s past n how stops rest
stopped_runs reach s past n how stops (Plan.kill_then session rest) = stops

pub running_runs : (s : ℕ) (past : Past) (n : Name) (how : Option How) → IsUnended n how → is_ready past n ≡ false → (plan : Plan) → RunsPlan Reach.cut_off s past n plan [] how
running_runs s past n how unended unready plan = stopped_runs Reach.cut_off s past n how (inl (running_unended past n how unended unready)) plan
