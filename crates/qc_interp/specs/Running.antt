-- What holds of a transaction between two of its steps, and what a step leaves.
use Rattle.std.specs.Prelude.{ℕ, ◌≡◌, ◌<◌, ◌⊎◌, Bool, true, false, IsTrue, List, [], ◌++◌, length, Option, None, Some, MatchOption, option_map}
use Rattle.qc_event.specs.declared.event.Answer.{Answer}
use Rattle.qc_event.specs.declared.event.Cause.TheVariants as cause
use Rattle.qc_event.specs.Users.{UserCause, is_marked, top_number}
use Rattle.qc_script.specs.declared.tx.TxNo.{TxNo}
use Rattle.qc_script.specs.declared.tx.TxNo.TheVariants as tx_no
use Rattle.qc_script.specs.Calls.{Refuses, IsOfSession, is_over}
use Rattle.qc_event.specs.declared.event.How.{How}
use Rattle.qc_event.specs.declared.event.How.TheVariants.{Commit, Abort}
use Rattle.qc_event.specs.declared.event.Kind.{Kind}
use Rattle.qc_event.specs.declared.event.Kind.TheVariants as kind
use Rattle.qc_event.specs.History.{Past, Name, end, is_ready, is_child, kind_of}
use Rattle.qc_event.specs.Legal.{Legal}
use Rattle.qc_names.specs.Name as name
use Rattle.qc_event.specs.Standing.{Started, IsUser, IsAbort, open_child}
use Rattle.qc_interp.specs.Adding.{AllStayIn}
use Rattle.qc_script.specs.Client.{Client, mine, scope, Made, IsLater, HasJoined, AreOurs}
use Rattle.qc_interp.specs.Deeds.{Deed, deeds, deed_end, OfChild}
use Rattle.qc_interp.specs.Follows.{StopsEarly, Stops, StopsBefore, WasAsked, WasOrphan, IsUnended, AfterTries, RunsPlan}
use Rattle.qc_interp.specs.declared.body.Came.{Came}
use Rattle.qc_interp.specs.declared.body.Came.TheVariants as came
use Rattle.qc_interp.specs.declared.managing.Called.{Called}
use Rattle.qc_interp.specs.declared.managing.Called.TheVariants as called
use Rattle.qc_interp.specs.declared.stops.Finish.{Finish}
use Rattle.qc_interp.specs.declared.stops.Finish.TheVariants as finish
use Rattle.qc_interp.specs.Reach.{Reach, AtTheEnd}
use Rattle.qc_script.specs.Plan.{Plan, Numbered}
use Rattle.qc_script.specs.Numbers.{each}
use Rattle.qc_interp.specs.Turns.{takes_turn, is_alone, seat_of, is_beside}
use Rattle.qc_interp.specs.Tries.{Tries, is_tried_again, TriesDo}
use Rattle.qc_interp.specs.Asking.{DoesAfter, Asks, AllAsked}

-- a name is strictly below another
abbrev pub IsBelow : Name → Name → Type 0
IsBelow above n = (length above < length n) × IsTrue (name.is_ancestor above n)

-- A user transaction of the client's session, started under its seat, that runs below the client's root: by what the client made neither it nor one above it has ended itself or is ready, and no child is open.
pub record Runs (c : Client) (of : Name) (now : Past) : Type 0 where
  pub legal : Legal c.setting now
  pub user : Started now of (λ b. IsOfSession c.session b.kind)
  pub seat : seat_of now of ≡ Some c.number
  pub nonroot : 0 < length of
  pub below : IsBelow c.root of
  pub above : (p r : Name) → of ≡ p ++ r → 0 < length p → IsUnended p (end (mine c now) p) × (is_ready (mine c now) p ≡ false)
  pub closed : AreOurs c of now → open_child (mine c now) of ≡ None

-- what is left as it was of a transaction above
pub record LeavesIt (c : Client) (p : Name) (before now : Past) : Type 0 where
  pub deeds : deeds (mine c now) p ≡ deeds (mine c before) p
  pub ready : is_ready (mine c now) p ≡ is_ready (mine c before) p
  pub unended : IsUnended p (end (mine c before) p) → IsUnended p (end (mine c now) p)

-- What a transaction did left those above it as they were, but that it may have aborted them as it asked. All that was
-- added stays in its scope.
pub record LeavesAt (reach : Reach) (c : Client) (of : Name) (before now : Past) : Type 0 where
  pub later : IsLater c before now
  pub above : (p r : Name) → of ≡ p ++ r → 0 < length r → LeavesIt c p before now
  pub inside : AllStayIn c (scope c of) later.newer
  pub over : AtTheEnd reach ((is_ready (mine c before) of ≡ true → is_over before of ≡ true) → is_ready (mine c now) of ≡ true → is_over now of ≡ true)
  pub turns : AreOurs c of now → each takes_turn (mine c before) ≡ true → is_alone (mine c before) of ≡ true → (each takes_turn (mine c now) ≡ true) × AtTheEnd reach (is_alone (mine c now) of ≡ true)

abbrev pub Leaves : Client → Name → Past → Past → Type 0
Leaves c of before now = LeavesAt Reach.to_the_end c of before now

-- From `before` on, a transaction did what this plan asks for, and ended, or came as far as the run. Whoever was aborted
-- meanwhile as another asked, that one came to a step `abort` that names it.
abbrev pub EndsAt : Reach → Client → Name → Past → Past → Plan → Type 0
EndsAt reach c of before now plan =
    AreOurs c of now → (further : List Deed) × (deeds (mine c now) of ≡ deeds (mine c before) of ++ further) × RunsPlan reach c.session (mine c now) of plan further (end (mine c now) of)
    × AllAsked c before now (λ by t. Asks (mine c now) of plan further by t)

abbrev pub Ends : Client → Name → Past → Past → Plan → Type 0
Ends c of before now plan = EndsAt Reach.to_the_end c of before now plan

-- by how a transaction has ended, it committed, or stopped so that its body is tried again, or not
abbrev pub CameTo : Finish → Option How → Type 0
CameTo finish.Committed (Some (Abort c)) = ⊥
CameTo finish.Committed how = Unit {0}
CameTo (finish.Stopped again) (Some (Commit given)) = ⊥
CameTo (finish.Stopped again) how = again ≡ is_tried_again how

-- the same, and what it came to
pub record Ended (c : Client) (of : Name) (before now : Past) (plan : Plan) (to : Finish) : Type 0 where
  pub leaves : Leaves c of before now
  pub tried : CameTo to (end (mine c now) of)
  pub ends : Ends c of before now plan

-- A transaction was cut off, for want of memory or room, as it did what this plan asks for: it has not ended itself.
pub record CutOff (c : Client) (of : Name) (before now : Past) (plan : Plan) : Type 0 where
  pub leaves : LeavesAt Reach.cut_off c of before now
  pub unended : IsUnended of (end (mine c now) of)
  pub begins : EndsAt Reach.cut_off c of before now plan

-- A transaction was aborted, or was aborted before that as another asked. No other was aborted as it asked.
pub record Quit (c : Client) (of : Name) (how : How) (before now : Past) (again : Bool) : Type 0 where
  pub leaves : Leaves c of before now
  pub tried : CameTo (finish.Stopped again) (end (mine c now) of)
  pub deeds : deeds (mine c now) of ≡ deeds (mine c before) of
  pub asked : AllAsked c before now (λ by t. ⊥)
  pub ended : AreOurs c of now → (end (mine c now) of ≡ Some how) ⊎ WasAsked of (end (mine c now) of)

-- why a transaction stops that a call refused
abbrev pub WhyStop : Client → Past → Name → TxNo → Type 0
WhyStop c seen of (tx_no.Short s) = ⊥
WhyStop c seen of (tx_no.Conflict copy holder) = UserCause seen of c.session (cause.Conflict copy holder)
WhyStop c seen of (tx_no.NoQuorum lack) = UserCause seen of c.session (cause.NoQuorum lack)
WhyStop c seen of tx_no.Last = UserCause seen of c.session cause.Last
WhyStop c seen of why = Refuses seen of why

-- how it ends then
abbrev pub StopsBy : Name → TxNo → Option How → Type 0
StopsBy of (tx_no.Conflict copy holder) how = (how ≡ Some (Abort (cause.Conflict copy holder))) ⊎ WasAsked of how
StopsBy of (tx_no.NoQuorum lack) how = (how ≡ Some (Abort (cause.NoQuorum lack))) ⊎ WasAsked of how
StopsBy of tx_no.Last how = (how ≡ Some (Abort cause.Last)) ⊎ WasAsked of how
StopsBy of (tx_no.Orphan a) how = (how ≡ Some (Abort (cause.Orphan a))) ⊎ WasAsked of how
StopsBy of why how = WasAsked of how

pub record Stopped (c : Client) (of : Name) (why : TxNo) (before now : Past) (again : Bool) : Type 0 where
  pub leaves : Leaves c of before now
  pub tried : CameTo (finish.Stopped again) (end (mine c now) of)
  pub deeds : deeds (mine c now) of ≡ deeds (mine c before) of
  pub asked : AllAsked c before now (λ by t. ⊥)
  pub ended : AreOurs c of now → StopsBy of why (end (mine c now) of)

-- a child that is a user transaction, and was aborted
pub record HasFailed (c : Client) (of : Name) (now : Past) (child : Name) : Type 0 where
  pub is_one : is_child of child ≡ true
  pub user : Started now child (λ b. IsUser b.kind)
  pub aborted : AreOurs c of now → MatchOption (end (mine c now) child) ⊥ IsAbort

-- A transaction was aborted for a child, which was no orphan, or stopped early.
pub record QuitFor (c : Client) (of child : Name) (before now : Past) (again : Bool) : Type 0 where
  pub leaves : Leaves c of before now
  pub tried : CameTo (finish.Stopped again) (end (mine c now) of)
  pub deeds : deeds (mine c now) of ≡ deeds (mine c before) of
  pub asked : AllAsked c before now (λ by t. ⊥)
  pub ended : AreOurs c of now → ((WasOrphan (end (mine c now) child) → ⊥) × (end (mine c now) of ≡ Some (Abort (cause.Child child)))) ⊎ StopsEarly of (end (mine c now) of)

-- The front of a plan was done: however the transaction goes on from `now` and ends, or is cut off, whatever is entered
-- and whatever branches the client merges until then, from `before` on it did the whole plan, or came as far.
abbrev pub FrontFollows : Client → Name → Past → Past → (Plan → Plan) → Type 0
FrontFollows c of before now front =
    (reach : Reach) (d : Client) (x : Past) → HasJoined c now d → IsLater d now x → (rest : Plan) → EndsAt reach d of now x rest → EndsAt reach d of before x (front rest)

-- A transaction goes on after a step.
pub record WentOn (c : Client) (of : Name) (before now : Past) (front : Plan → Plan) : Type 0 where
  pub leaves : Leaves c of before now
  pub runs : Runs c of now
  pub follows : FrontFollows c of before now front

-- MARKS

-- the client has not marked its session by a transaction whose top has at least the number of this one's
abbrev pub HasNotMarked : Client → Name → Past → Type 0
HasNotMarked c of now = is_marked (mine c now) c.session (top_number of) ≡ false

-- From `now` on a transaction does nothing: it was killed, or aborted as another asked, or the run was cut off while it ran.
abbrev pub StopsThere : Reach → Client → Name → Past → Past → Type 0
StopsThere reach c of now x =
    AreOurs c of x → (deeds (mine c x) of ≡ deeds (mine c now) of) × StopsBefore reach (mine c x) of (end (mine c x) of) × AllAsked c now x (λ by t. ⊥)

-- A step was done, and the transaction looks whether it is killed before it does more. It may stop there, and goes on only
-- where the client has not marked its session.
pub record Acted (c : Client) (of : Name) (before now : Past) (front : Plan → Plan) : Type 0 where
  pub leaves : Leaves c of before now
  pub runs : Runs c of now
  pub follows : HasNotMarked c of now → FrontFollows c of before now front
  pub stops : (reach : Reach) (d : Client) (x : Past) → HasJoined c now d → IsLater d now x → StopsThere reach d of now x → (rest : Plan) → EndsAt reach d of before x (front rest)

-- A step was done, and the transaction has not ended, or has ended so that its body is tried again, or not.
abbrev pub HasActed : Client → Name → Past → Past → (Plan → Plan) → Option Bool → Type 0
HasActed c of before now front None = Acted c of before now front
HasActed c of before now front (Some again) = (rest : Plan) → Ended c of before now (front rest) (finish.Stopped again)

-- A transaction has looked whether it is killed, and goes on, or was killed.
abbrev pub HasLooked : Client → Name → Past → Past → Option Bool → Type 0
HasLooked c of before now None = Made c [] before now × HasNotMarked c of now
HasLooked c of before now (Some again) = Quit c of (Abort cause.Killed) before now again

-- BY ANSWERS, AND IN TRIES

-- A transaction goes on after a manager that committed, and does what follows by its answer.
pub record WentBy (c : Client) (of : Name) (before now : Past) (k : Kind) (given : Answer) : Type 0 where
  pub leaves : Leaves c of before now
  pub runs : Runs c of now
  pub follows : (reach : Reach) (d : Client) (x : Past) → HasJoined c now d → IsLater d now x → (next : Answer → Plan) → EndsAt reach d of now x (next given) → EndsAt reach d of before x (Plan.manage_by k next)

-- A step's manager of a kind answered, or the transaction stopped there.
abbrev pub HasCalled : Client → Name → Past → Past → Kind → Called → Type 0
HasCalled c of before now k (called.Answered given) = WentBy c of before now k given
HasCalled c of before now k (called.Stopped again) = (next : Answer → Plan) → Ended c of before now (Plan.manage_by k next) (finish.Stopped again)

-- A step was done, and the transaction goes on, or has ended so that its body is tried again, or not.
abbrev pub Stepped : Client → Name → Past → Past → (Plan → Plan) → Option Bool → Type 0
Stepped c of before now front None = WentOn c of before now front
Stepped c of before now front (Some again) = (rest : Plan) → Ended c of before now (front rest) (finish.Stopped again)

-- From `before` on, a transaction did so many tries of a body, behind this one, and then the rest, and ended, or came as
-- far as the run.
abbrev pub EndsTries : Reach → Client → Name → Past → Past → Numbered → Option Name → ℕ → Plan → Type 0
EndsTries reach c of before now body last left rest =
    AreOurs c of now → (further : List Deed) × (deeds (mine c now) of ≡ deeds (mine c before) of ++ further)
    × Tries (deed_end (mine c now)) (OfChild (λ n. IsTrue (is_beside (mine c now) of n) × (kind_of (mine c now) n ≡ Some (kind.User c.session body.number)) × RunsPlan reach c.session (mine c now) n body.plan (deeds (mine c now) n) (end (mine c now) n)))
    (Stops reach (mine c now) of (end (mine c now) of))
    (λ latest more. AfterTries reach (mine c now) of latest body.must (RunsPlan reach c.session (mine c now) of rest more (end (mine c now) of)) more (end (mine c now) of)) (option_map Deed.child last) left further
    × AllAsked c before now (λ by t. TriesDo (deed_end (mine c now)) (OfChild (λ n. Asks (mine c now) n body.plan (deeds (mine c now) n) by t)) (λ latest more. DoesAfter (mine c now) latest body.must (Asks (mine c now) of rest more by t)) (option_map Deed.child last) left further)

-- a step that runs a child of a body
abbrev pub child_step : Numbered → Plan → Plan
child_step body rest = Plan.child_then body.number body.tries body.must body.plan rest

-- Some tries were done, the last of them this: what is left of them leads to all of them.
abbrev pub FrontTries : Client → Name → Past → Past → Numbered → Option Name → ℕ → Type 0
FrontTries c of before now body last left =
    (reach : Reach) (d : Client) (x : Past) → HasJoined c now d → IsLater d now x → (rest : Plan) → EndsTries reach d of now x body last left rest → EndsAt reach d of before x (child_step body rest)

-- The tries of a child were done, and the last of them failed.
pub record Failed (c : Client) (of : Name) (before now : Past) (body : Numbered) (last : Name) : Type 0 where
  pub leaves : Leaves c of before now
  pub runs : Runs c of now
  pub failed : HasFailed c of now last
  pub follows : FrontTries c of before now body (Some last) 0

-- the tries of a child came to this
abbrev pub TriesCame : Client → Name → Past → Past → Numbered → Came → Type 0
TriesCame c of before now body came.Through = WentOn c of before now (child_step body)
TriesCame c of before now body (came.Failed last) = Failed c of before now body last
TriesCame c of before now body (came.Stopped again) = (rest : Plan) → Ended c of before now (child_step body rest) (finish.Stopped again)
