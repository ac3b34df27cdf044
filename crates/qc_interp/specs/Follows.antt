-- What it is for a transaction to do what the steps of its body ask for: to start children, and to mark sessions. All of it
-- is said of one list of entries: the history, or those of it that one client made.
use Rattle.std.specs.Prelude.{ℕ, ◌≡◌, ◌==◌, ◌-◌, ◌⊎◌, Bool, true, false, not, IsTrue, MatchBool, List, [], ◌∷◌, ◌++◌, length, take, Option, None, Some}
use Rattle.std.specs.List.{AllByRecursion}
use Rattle.std.proofs.Common.{zero, suc}
use Rattle.qc_event.specs.declared.event.Answer.{Answer}
use Rattle.qc_event.specs.declared.event.Cause.{Cause}
use Rattle.qc_event.specs.declared.event.Cause.TheVariants as cause
use Rattle.qc_event.specs.declared.event.How.{How}
use Rattle.qc_event.specs.declared.event.How.TheVariants.{Commit, Abort}
use Rattle.qc_event.specs.declared.event.Kind.TheVariants as kind
use Rattle.qc_event.specs.History.{Past, Name, same, end, is_ready, kind_of}
use Rattle.qc_script.specs.Plan.{Plan, Numbered}
use Rattle.qc_interp.specs.Deeds.{Deed, deeds, deed_end, OfChild}
use Rattle.qc_interp.specs.Reach.{Reach}
use Rattle.qc_interp.specs.Rows.{AreAtOnce, each_begun, each_tried, first_failed, tries_among}
use Rattle.qc_interp.specs.Tries.{Tries}
use Rattle.qc_interp.specs.Turns.{is_beside}

-- the ancestor so many levels up
abbrev pub above : Name → ℕ → Name
above n levels = take (length n - levels) n

-- A transaction stops early only where it was aborted as another asked, as an orphan, or as one that is killed. (In a legal
-- history an orphan has an aborted ancestor, and a mark of its session licenses that one is killed.)
abbrev pub StopsEarly : Name → Option How → Type 0
StopsEarly n (Some (Abort (cause.Asked by))) = IsTrue (not (same by n))
StopsEarly n (Some (Abort (cause.Orphan a))) = Unit {0}
StopsEarly n (Some (Abort cause.Killed)) = Unit {0}
StopsEarly n _ = ⊥

-- it was aborted as another asked
abbrev pub WasAsked : Name → Option How → Type 0
WasAsked n (Some (Abort (cause.Asked by))) = IsTrue (not (same by n))
WasAsked n _ = ⊥

-- it was aborted as one that is killed
abbrev pub WasKilled : Option How → Type 0
WasKilled (Some (Abort cause.Killed)) = Unit {0}
WasKilled _ = ⊥

-- it has not ended, or was aborted as another asked
abbrev pub IsUnended : Name → Option How → Type 0
IsUnended n how = (how ≡ None) ⊎ WasAsked n how

-- it is neither ended nor a ready top
abbrev pub IsRunning : Past → Name → Option How → Type 0
IsRunning past n how = (how ≡ None) × (is_ready past n ≡ false)

-- it stopped early, or the run was cut off while it ran
abbrev pub Stops : Reach → Past → Name → Option How → Type 0
Stops Reach.to_the_end past n how = StopsEarly n how
Stops Reach.cut_off past n how = StopsEarly n how ⊎ IsRunning past n how

-- it was aborted as another asked, or the run was cut off while it ran
abbrev pub HasNotEnded : Reach → Past → Name → Option How → Type 0
HasNotEnded Reach.to_the_end past n how = WasAsked n how
HasNotEnded Reach.cut_off past n how = WasAsked n how ⊎ IsRunning past n how

-- it stopped before a step: it was killed or aborted as another asked, or the run was cut off while it ran
abbrev pub StopsBefore : Reach → Past → Name → Option How → Type 0
StopsBefore reach past n how = HasNotEnded reach past n how ⊎ WasKilled how

-- the run was cut off at its last child, which has not ended
abbrev pub IsCutShort : Reach → Past → Name → List Deed → Option How → Type 0
IsCutShort Reach.to_the_end past n further how = ⊥
IsCutShort Reach.cut_off past n further how = (further ≡ []) × HasNotEnded Reach.cut_off past n how

-- the causes that a manager hands to its transaction
abbrev pub is_handed_on : Cause → Bool
is_handed_on (cause.Conflict copy holder) = true
is_handed_on (cause.NoQuorum lack) = true
is_handed_on cause.Last = true
is_handed_on _ = false

-- A transaction goes on where a manager committed, by its answer. Where that was aborted, the transaction does nothing
-- further, and is aborted with the same cause where that is handed on, unless it stops early.
abbrev pub GoesOn : Reach → Past → Name → Option How → (Answer → Type 0) → List Deed → Option How → Type 0
GoesOn reach past n (Some (Commit given)) rest further how = rest given
GoesOn reach past n (Some (Abort c)) rest further how = (further ≡ []) × (((is_handed_on c ≡ true) × (how ≡ Some (Abort c))) ⊎ Stops reach past n how)
GoesOn reach past n None rest further how = IsCutShort reach past n further how

-- whether it is of an orphan
abbrev pub is_of_orphan : Cause → Bool
is_of_orphan (cause.Orphan a) = true
is_of_orphan _ = false

-- A transaction goes on where a child committed. Where that was aborted, the transaction does nothing further, and is
-- aborted for it, unless the child was an orphan, or the transaction stops early.
abbrev pub GoesOnAfter : Reach → Past → Name → Name → Option How → Type 0 → List Deed → Option How → Type 0
GoesOnAfter reach past n child (Some (Commit given)) Rest further how = Rest
GoesOnAfter reach past n child (Some (Abort c)) Rest further how =
    (further ≡ []) × (((is_of_orphan c ≡ false) × (how ≡ Some (Abort (cause.Child child)))) ⊎ Stops reach past n how)
GoesOnAfter reach past n child None Rest further how = IsCutShort reach past n further how

-- Behind the last try of a child a transaction goes on, but by that try where the child must commit.
abbrev pub AfterTries : Reach → Past → Name → Option Deed → Bool → Type 0 → List Deed → Option How → Type 0
AfterTries reach past n None must Rest further how = Rest
AfterTries reach past n (Some d) false Rest further how = Rest
AfterTries reach past n (Some (Deed.child c)) true Rest further how = GoesOnAfter reach past n c (end past c) Rest further how
AfterTries reach past n (Some (Deed.mark m)) true Rest further how = ⊥

-- it was an orphan
abbrev pub WasOrphan : Option How → Type 0
WasOrphan (Some (Abort c)) = is_of_orphan c ≡ true
WasOrphan _ = ⊥

-- A branch that was begun did nothing, since another could not be begun: it ended as an orphan, or was aborted as another
-- asked, or the run was cut off while it ran.
abbrev pub WasTurnedBack : Reach → Past → Name → Type 0
WasTurnedBack reach past c = (deeds past c ≡ []) × (WasOrphan (end past c) ⊎ HasNotEnded reach past c (end past c))

-- Behind branches at once a transaction goes on where each was tried as often as it is, but by the first that must commit
-- and failed. Else it stopped meanwhile.
abbrev pub AfterRow : Reach → Past → Name → Bool → Option Deed → Type 0 → List Deed → Option How → Type 0
AfterRow reach past n true failed Rest further how = AfterTries reach past n failed true Rest further how
AfterRow reach past n false failed Rest further how = (further ≡ []) × Stops reach past n how

-- it has committed, or is a ready top
abbrev pub Commits : Past → Name → Option How → Type 0
Commits past n (Some (Commit given)) = Unit {0}
Commits past n (Some (Abort c)) = ⊥
Commits past n None = IsTrue (is_ready past n)

-- how a transaction ends at a step `abort` so many levels up
abbrev pub asked_end : Name → ℕ → Option How
asked_end n zero = Some (Abort (cause.Asked n))
asked_end n (suc below) = Some (Abort (cause.Orphan (above n (suc below))))

-- A transaction of a session does what its plan asks for, as far as it goes on, or as far as the run came that was cut
-- off. The crash of a copy asks for nothing and ends nothing. Whoever marks its own session stops before the next step.
abbrev mutual
  pub RunsPlan : Reach → ℕ → Past → Name → Plan → List Deed → Option How → Type 0
  RunsPlan reach s past n Plan.done [] how = Commits past n how ⊎ Stops reach past n how
  RunsPlan reach s past n Plan.done (d ∷ further) how = ⊥
  RunsPlan reach s past n (Plan.manage_by k next) [] how = Stops reach past n how
  RunsPlan reach s past n (Plan.manage_by k next) (Deed.child c ∷ further) how =
      (kind_of past c ≡ Some k) × IsTrue (is_beside past n c) × GoesOn reach past n (end past c) (λ given. RunsPlan reach s past n (next given) further how) further how
  RunsPlan reach s past n (Plan.manage_by k next) (Deed.mark m ∷ further) how = ⊥
  RunsPlan reach s past n (Plan.child_then number tries must inner rest) ds how =
      Tries (deed_end past) (OfChild (λ c. IsTrue (is_beside past n c) × (kind_of past c ≡ Some (kind.User s number)) × RunsPlan reach s past c inner (deeds past c) (end past c)))
      (Stops reach past n how) (λ last further. AfterTries reach past n last must (RunsPlan reach s past n rest further how) further how) None tries ds
  RunsPlan reach s past n (Plan.par_then branches rest) ds how =
      (here : List Deed) × (further : List Deed) × (ds ≡ here ++ further) × AreAtOnce past branches here further × RunsRow reach s past (each_begun past branches here) branches here
      × AfterRow reach past n (each_tried past false branches here) (first_failed past branches here) (RunsPlan reach s past n rest further how) further how
  RunsPlan reach s past n (Plan.abort_then levels rest) [] how = (how ≡ asked_end n levels) ⊎ StopsBefore reach past n how
  RunsPlan reach s past n (Plan.abort_then levels rest) (d ∷ further) how = ⊥
  RunsPlan reach s past n (Plan.crash_then copy rest) ds how = RunsPlan reach s past n rest ds how
  RunsPlan reach s past n (Plan.kill_then session rest) [] how = StopsBefore reach past n how
  RunsPlan reach s past n (Plan.kill_then session rest) (Deed.child c ∷ further) how = ⊥
  RunsPlan reach s past n (Plan.kill_then session rest) (Deed.mark m ∷ further) how =
      (m ≡ session) × MatchBool (session == s) ((further ≡ []) × StopsBefore reach past n how) (RunsPlan reach s past n rest further how)

  -- each try of each branch of a row does what the branch's plan asks for, where all were begun
  pub RunsRow : Reach → ℕ → Past → Bool → Plan → List Deed → Type 0
  RunsRow reach s past all_begun (Plan.child_then number tries must inner others) ds =
      AllByRecursion (OfChild (λ c. (kind_of past c ≡ Some (kind.User s number)) × MatchBool all_begun (RunsPlan reach s past c inner (deeds past c) (end past c)) (WasTurnedBack reach past c))) (tries_among past number ds)
      × RunsRow reach s past all_begun others ds
  RunsRow reach s past all_begun _ ds = Unit {0}

-- a top of a session and of a body, which does what the body's plan asks for
pub record RunsBody (reach : Reach) (s : ℕ) (past : Past) (body : Numbered) (top : Name) : Type 0 where
  pub kind : kind_of past top ≡ Some (kind.User s body.number)
  pub steps : RunsPlan reach s past top body.plan (deeds past top) (end past top)

-- IN A RUN THAT CAME TO ITS END

abbrev pub FollowsPlan : ℕ → Past → Name → Plan → List Deed → Option How → Type 0
FollowsPlan s past n plan ds how = RunsPlan Reach.to_the_end s past n plan ds how

abbrev pub FollowsBody : ℕ → Past → Numbered → Name → Type 0
FollowsBody s past body top = RunsBody Reach.to_the_end s past body top
