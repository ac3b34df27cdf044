-- Who follows a plan has ended or is ready, follows it where a ready top commits, and runs it however far the run came.
use Rattle.std.proofs.Common.{◌≡◌, ◌⊎◌, inl, inr, ℕ, zero, suc, Bool, true, false, List, [], ◌∷◌, refl, sym, ap, ◌∙◌}
use mathlib.Core.Bool.{true≢false}
use Rattle.std.specs.Prelude.{◌==◌, Option, None, Some, IsTrue, MatchBool, is_some}
use Rattle.qc_event.specs.declared.event.Answer.{Answer}
use Rattle.qc_event.specs.declared.event.How.{How}
use Rattle.qc_event.specs.declared.event.How.TheVariants.{Commit, Abort}
use Rattle.qc_event.specs.declared.event.Kind.TheVariants as kind
use Rattle.qc_event.specs.History.{Past, Name, end, is_ready, kind_of}
use Rattle.qc_script.specs.Plan.{Plan}
use Rattle.qc_interp.specs.Deeds.{Deed, deeds, deed_end, OfChild}
use Rattle.qc_interp.specs.Tries.{Tries, is_tried_again}
use Rattle.qc_interp.specs.Follows.{StopsEarly, WasAsked, WasOrphan, WasTurnedBack, Stops, HasNotEnded, StopsBefore, GoesOn, GoesOnAfter, AfterTries, AfterRow, Commits, RunsPlan, RunsRow, FollowsPlan, asked_end}
use Rattle.qc_interp.specs.Rows.{tries_among, each_begun, each_tried, first_failed}
use Rattle.qc_interp.specs.Turns.{is_beside}
use Rattle.qc_interp.specs.Reach.{Reach}
use Rattle.qc_interp.proofs.Scopes.Mine.{Closed}
use Rattle.qc_interp.proofs.Rows.SameDeeds.{all_map}

-- WHO FOLLOWS A PLAN HAS ENDED, OR IS READY

stopped_some : (n : Name) (how : Option How) → StopsEarly n how → is_some how ≡ true
stopped_some n None h = absurd h
stopped_some n (Some how) h = refl

before_some : (n : Name) (how : Option How) → StopsBefore Reach.to_the_end [] n how → is_some how ≡ true
before_some n None (inl h) = absurd h
before_some n None (inr h) = absurd h
before_some n (Some how) h = refl

-- how it ended, or that it is ready
abbrev Done : Past → Name → Option How → Type 0
Done past n how = (is_some how ≡ true) ⊎ ((how ≡ None) × (is_ready past n ≡ true))

committed_done : (past : Past) (n : Name) (how : Option How) → Commits past n how → Done past n how
committed_done past n None h = inr (refl, h)
committed_done past n (Some (Abort c)) h = absurd h
committed_done past n (Some (Commit given)) h = inl refl

goes_done : (past : Past) (n : Name) (o : Option How) (Rest : Answer → Type 0) (further : List Deed) (how : Option How) → ((given : Answer) → Rest given → Done past n how) → GoesOn Reach.to_the_end past n o Rest further how → Done past n how
goes_done past n None Rest further how rest h = absurd h
goes_done past n (Some (Commit given)) Rest further how rest h = rest given h
goes_done past n (Some (Abort c)) Rest further how rest h = elim h.1 [
  | inl is ↦ inl (ap is_some is.1)
  | inr s ↦ inl (stopped_some n how s)
]

tries_done : {A : Type 0} (ended : A → Option How) (IsTry : A → Type 0) (Stopped : Type 0) (Rest : Option A → List A → Type 0) (Goal : Type 0) → (Stopped → Goal) → ((last : Option A) (cs : List A) → Rest last cs → Goal) → (last : Option A) (left : ℕ) (cs : List A) → Tries ended IsTry Stopped Rest last left cs → Goal
tries_done ended IsTry Stopped Rest Goal stop rest last zero cs h = rest last cs h
tries_done ended IsTry Stopped Rest Goal stop rest last (suc left) [] h = stop h
tries_done ended IsTry Stopped Rest Goal stop rest last (suc left) (c ∷ cs) h = by_test (is_tried_again (ended c)) h.1 (tries_done ended IsTry Stopped Rest Goal stop rest (Some c) left cs)
  where
    by_test : (b : Bool) → MatchBool b (Tries ended IsTry Stopped Rest (Some c) left cs) (Rest (Some c) cs) → (Tries ended IsTry Stopped Rest (Some c) left cs → Goal) → Goal
    by_test true h more = more h
    by_test false h more = rest (Some c) cs h

-- who was aborted for a child, or stopped early, has ended
after_done : (past : Past) (n child : Name) (o : Option How) (Rest : Type 0) (further : List Deed) (how : Option How) → (Rest → Done past n how) → GoesOnAfter Reach.to_the_end past n child o Rest further how → Done past n how
after_done past n child None Rest further how rest h = absurd h
after_done past n child (Some (Commit given)) Rest further how rest h = rest h
after_done past n child (Some (Abort c)) Rest further how rest h = elim h.1 [
  | inl is ↦ inl (ap is_some is.1)
  | inr s ↦ inl (stopped_some n how s)
]

behind_done : (past : Past) (n : Name) (last : Option Deed) (must : Bool) (Rest : Type 0) (further : List Deed) (how : Option How) → (Rest → Done past n how) → AfterTries Reach.to_the_end past n last must Rest further how → Done past n how
behind_done past n None must Rest further how rest h = rest h
behind_done past n (Some d) false Rest further how rest h = rest h
behind_done past n (Some (Deed.child child)) true Rest further how rest h = after_done past n child (end past child) Rest further how rest h
behind_done past n (Some (Deed.mark m)) true Rest further how rest h = absurd h

behind_row_done : (past : Past) (n : Name) (tried : Bool) (failed : Option Deed) (Rest : Type 0) (further : List Deed) (how : Option How) → (Rest → Done past n how) → AfterRow Reach.to_the_end past n tried failed Rest further how → Done past n how
behind_row_done past n true failed Rest further how rest h = behind_done past n failed true Rest further how rest h
behind_row_done past n false failed Rest further how rest h = inl (stopped_some n how h.1)

pub followed_done : (s : ℕ) (past : Past) (n : Name) (plan : Plan) (cs : List Deed) (how : Option How) → FollowsPlan s past n plan cs how → Done past n how
followed_done s past n Plan.done [] how (inl is) = committed_done past n how is
followed_done s past n Plan.done [] how (inr x) = inl (stopped_some n how x)
followed_done s past n Plan.done (c ∷ cs) how h = absurd h
followed_done s past n (Plan.manage_by k next) [] how h = inl (stopped_some n how h)
followed_done s past n (Plan.manage_by k next) (Deed.child c ∷ cs) how h =
    goes_done past n (end past c) (λ given. FollowsPlan s past n (next given) cs how) cs how (λ given. followed_done s past n (next given) cs how) h.2
followed_done s past n (Plan.manage_by k next) (Deed.mark m ∷ cs) how h = absurd h
followed_done s past n (Plan.child_then number tries must inner rest) cs how h =
    tries_done (deed_end past) _ (StopsEarly n how) (λ last further. AfterTries Reach.to_the_end past n last must (FollowsPlan s past n rest further how) further how) (Done past n how) (λ x. inl (stopped_some n how x))
    (λ last further f. behind_done past n last must (FollowsPlan s past n rest further how) further how (followed_done s past n rest further how) f) None tries cs h
followed_done s past n (Plan.par_then branches rest) cs how h =
    behind_row_done past n (each_tried past false branches h.0) (first_failed past branches h.0) (FollowsPlan s past n rest h.1 how) h.1 how (followed_done s past n rest h.1 how) h.5
followed_done s past n (Plan.abort_then levels rest) [] how (inl is) = inl (by_levels levels is)
  where
    by_levels : (l : ℕ) → how ≡ asked_end n l → is_some how ≡ true
    by_levels zero is = ap is_some is
    by_levels (suc l) is = ap is_some is
followed_done s past n (Plan.abort_then levels rest) [] how (inr x) = inl (before_some n how x)
followed_done s past n (Plan.abort_then levels rest) (c ∷ cs) how h = absurd h
followed_done s past n (Plan.crash_then copy rest) cs how h = followed_done s past n rest cs how h
followed_done s past n (Plan.kill_then session rest) [] how h = inl (before_some n how h)
followed_done s past n (Plan.kill_then session rest) (Deed.child c ∷ cs) how h = absurd h
followed_done s past n (Plan.kill_then session rest) (Deed.mark m ∷ cs) how h = by_test (session == s) h.1 (followed_done s past n rest cs how)
  where
    by_test : (b : Bool) → MatchBool b ((cs ≡ []) × StopsBefore Reach.to_the_end past n how) (FollowsPlan s past n rest cs how) → (FollowsPlan s past n rest cs how → Done past n how) → Done past n how
    by_test true x more = inl (before_some n how x.1)
    by_test false x more = more x

pub done_closed : (past : Past) (n : Name) → Done past n (end past n) → Closed past n
done_closed past n (inl ended) = inl ended
done_closed past n (inr ready) = inr ready.1

-- A READY TOP THAT COMMITS

-- who is ready neither stopped early nor runs
ready_not : (reach : Reach) (past : Past) (n : Name) → is_ready past n ≡ true → Stops reach past n None → ⊥
ready_not Reach.to_the_end past n ready h = h
ready_not Reach.cut_off past n ready (inl h) = h
ready_not Reach.cut_off past n ready (inr h) = true≢false (sym ready ∙ h.1)

unended_not : (reach : Reach) (past : Past) (n : Name) → is_ready past n ≡ true → HasNotEnded reach past n None → ⊥
unended_not Reach.to_the_end past n ready h = h
unended_not Reach.cut_off past n ready (inl h) = h
unended_not Reach.cut_off past n ready (inr h) = true≢false (sym ready ∙ h.1)

before_not : (reach : Reach) (past : Past) (n : Name) → is_ready past n ≡ true → StopsBefore reach past n None → ⊥
before_not reach past n ready (inl h) = unended_not reach past n ready h
before_not reach past n ready (inr h) = h

goes_committed : (reach : Reach) (past : Past) (n : Name) (o : Option How) (Rest Rest2 : Answer → Type 0) (further : List Deed) (how : How) → is_ready past n ≡ true → ((given : Answer) → Rest given → Rest2 given) → GoesOn reach past n o Rest further None → GoesOn reach past n o Rest2 further (Some how)
goes_committed Reach.to_the_end past n None Rest Rest2 further how ready step h = absurd h
goes_committed Reach.cut_off past n None Rest Rest2 further how ready step h = absurd (unended_not Reach.cut_off past n ready h.1)
goes_committed reach past n (Some (Commit given)) Rest Rest2 further how ready step h = step given h
goes_committed reach past n (Some (Abort c)) Rest Rest2 further how ready step h = elim h.1 [
  | inl is ↦ absurd cc
  | inr x ↦ absurd (ready_not reach past n ready x)
]

pub tries_wider : {A : Type 0} (ended : A → Option How) (IsTry IsTry2 : A → Type 0) (Stopped Stopped2 : Type 0) (Rest Rest2 : Option A → List A → Type 0) → ((c : A) → IsTry c → IsTry2 c) → (Stopped → Stopped2) → ((last : Option A) (cs : List A) → Rest last cs → Rest2 last cs) → (last : Option A) (left : ℕ) (cs : List A) → Tries ended IsTry Stopped Rest last left cs → Tries ended IsTry2 Stopped2 Rest2 last left cs
tries_wider ended IsTry IsTry2 Stopped Stopped2 Rest Rest2 try stop rest last zero cs h = rest last cs h
tries_wider ended IsTry IsTry2 Stopped Stopped2 Rest Rest2 try stop rest last (suc left) [] h = stop h
tries_wider ended IsTry IsTry2 Stopped Stopped2 Rest Rest2 try stop rest last (suc left) (c ∷ cs) h = (try c h.0, by_test (is_tried_again (ended c)) (tries_wider ended IsTry IsTry2 Stopped Stopped2 Rest Rest2 try stop rest (Some c) left cs) h.1)
  where
    by_test : (b : Bool) → (Tries ended IsTry Stopped Rest (Some c) left cs → Tries ended IsTry2 Stopped2 Rest2 (Some c) left cs) → MatchBool b (Tries ended IsTry Stopped Rest (Some c) left cs) (Rest (Some c) cs) → MatchBool b (Tries ended IsTry2 Stopped2 Rest2 (Some c) left cs) (Rest2 (Some c) cs)
    by_test true more x = more x
    by_test false more x = rest (Some c) cs x

after_committed : (reach : Reach) (past : Past) (n child : Name) (o : Option How) (Rest Rest2 : Type 0) (further : List Deed) (how : How) → is_ready past n ≡ true → (Rest → Rest2) → GoesOnAfter reach past n child o Rest further None → GoesOnAfter reach past n child o Rest2 further (Some how)
after_committed Reach.to_the_end past n child None Rest Rest2 further how ready step h = absurd h
after_committed Reach.cut_off past n child None Rest Rest2 further how ready step h = absurd (unended_not Reach.cut_off past n ready h.1)
after_committed reach past n child (Some (Commit given)) Rest Rest2 further how ready step h = step h
after_committed reach past n child (Some (Abort c)) Rest Rest2 further how ready step h = elim h.1 [
  | inl is ↦ absurd cc
  | inr x ↦ absurd (ready_not reach past n ready x)
]

behind_committed : (reach : Reach) (past : Past) (n : Name) (last : Option Deed) (must : Bool) (Rest Rest2 : Type 0) (further : List Deed) (how : How) → is_ready past n ≡ true → (Rest → Rest2) → AfterTries reach past n last must Rest further None → AfterTries reach past n last must Rest2 further (Some how)
behind_committed reach past n None must Rest Rest2 further how ready step h = step h
behind_committed reach past n (Some d) false Rest Rest2 further how ready step h = step h
behind_committed reach past n (Some (Deed.child child)) true Rest Rest2 further how ready step h = after_committed reach past n child (end past child) Rest Rest2 further how ready step h
behind_committed reach past n (Some (Deed.mark m)) true Rest Rest2 further how ready step h = absurd h

row_committed : (reach : Reach) (past : Past) (n : Name) (tried : Bool) (failed : Option Deed) (Rest Rest2 : Type 0) (further : List Deed) (how : How) → is_ready past n ≡ true → (Rest → Rest2) → AfterRow reach past n tried failed Rest further None → AfterRow reach past n tried failed Rest2 further (Some how)
row_committed reach past n true failed Rest Rest2 further how ready step h = behind_committed reach past n failed true Rest Rest2 further how ready step h
row_committed reach past n false failed Rest Rest2 further how ready step h = absurd (ready_not reach past n ready h.1)

pub plan_committed : (reach : Reach) (s : ℕ) (past : Past) (n : Name) (plan : Plan) (cs : List Deed) (given : Answer) → is_ready past n ≡ true → RunsPlan reach s past n plan cs None → RunsPlan reach s past n plan cs (Some (Commit given))
plan_committed reach s past n Plan.done [] given ready (inl is) = inl tt
plan_committed reach s past n Plan.done [] given ready (inr x) = absurd (ready_not reach past n ready x)
plan_committed reach s past n Plan.done (c ∷ cs) given ready h = absurd h
plan_committed reach s past n (Plan.manage_by k next) [] given ready h = absurd (ready_not reach past n ready h)
plan_committed reach s past n (Plan.manage_by k next) (Deed.child c ∷ cs) given ready h = (
  h.0,
  h.1,
  goes_committed reach past n (end past c) (λ told. RunsPlan reach s past n (next told) cs None) (λ told. RunsPlan reach s past n (next told) cs (Some (Commit given))) cs (Commit given) ready
      (λ told. plan_committed reach s past n (next told) cs given ready) h.2,
)
plan_committed reach s past n (Plan.manage_by k next) (Deed.mark m ∷ cs) given ready h = absurd h
plan_committed reach s past n (Plan.child_then number tries must inner rest) cs given ready h =
    tries_wider (deed_end past) _ _ (Stops reach past n None) (Stops reach past n (Some (Commit given))) (λ last further. AfterTries reach past n last must (RunsPlan reach s past n rest further None) further None)
    (λ last further. AfterTries reach past n last must (RunsPlan reach s past n rest further (Some (Commit given))) further (Some (Commit given))) (λ c t. t) (λ x. absurd (ready_not reach past n ready x))
    (λ last further f. behind_committed reach past n last must (RunsPlan reach s past n rest further None) (RunsPlan reach s past n rest further (Some (Commit given))) further (Commit given) ready (plan_committed reach s past n rest further given ready) f) None tries cs h
plan_committed reach s past n (Plan.par_then branches rest) cs given ready h = (
  h.0,
  h.1,
  h.2,
  h.3,
  h.4,
  row_committed reach past n (each_tried past false branches h.0) (first_failed past branches h.0) (RunsPlan reach s past n rest h.1 None) (RunsPlan reach s past n rest h.1 (Some (Commit given))) h.1 (Commit given) ready (plan_committed reach s past n rest h.1 given ready) h.5,
)
plan_committed reach s past n (Plan.abort_then levels rest) [] given ready (inl is) = absurd (by_levels levels is)
  where
    by_levels : (l : ℕ) → None ≡ asked_end n l → ⊥
    by_levels zero is = cc
    by_levels (suc l) is = cc
plan_committed reach s past n (Plan.abort_then levels rest) [] given ready (inr x) = absurd (before_not reach past n ready x)
plan_committed reach s past n (Plan.abort_then levels rest) (c ∷ cs) given ready h = absurd h
plan_committed reach s past n (Plan.crash_then copy rest) cs given ready h = plan_committed reach s past n rest cs given ready h
plan_committed reach s past n (Plan.kill_then session rest) [] given ready h = absurd (before_not reach past n ready h)
plan_committed reach s past n (Plan.kill_then session rest) (Deed.child c ∷ cs) given ready h = absurd h
plan_committed reach s past n (Plan.kill_then session rest) (Deed.mark m ∷ cs) given ready h = (h.0, by_test (session == s) h.1 (plan_committed reach s past n rest cs given ready))
  where
    by_test : (b : Bool) → MatchBool b ((cs ≡ []) × StopsBefore reach past n None) (RunsPlan reach s past n rest cs None) → (RunsPlan reach s past n rest cs None → RunsPlan reach s past n rest cs (Some (Commit given)))
        → MatchBool b ((cs ≡ []) × StopsBefore reach past n (Some (Commit given))) (RunsPlan reach s past n rest cs (Some (Commit given)))
    by_test true x more = absurd (before_not reach past n ready x.1)
    by_test false x more = more x

-- who has not ended, and follows its plan, is ready
pub followed_ready : (s : ℕ) (past : Past) (n : Name) (plan : Plan) (cs : List Deed) → FollowsPlan s past n plan cs None → is_ready past n ≡ true
followed_ready s past n plan cs h = elim (followed_done s past n plan cs None h) [
  | inl some ↦ absurd (true≢false (sym some))
  | inr done ↦ done.1
]

-- WHO FOLLOWS A PLAN RUNS IT, HOWEVER FAR THE RUN CAME

stops_early : (reach : Reach) (past : Past) (n : Name) (how : Option How) → StopsEarly n how → Stops reach past n how
stops_early Reach.to_the_end past n how h = h
stops_early Reach.cut_off past n how h = inl h

pub asked_unended : (reach : Reach) (past : Past) (n : Name) (how : Option How) → WasAsked n how → HasNotEnded reach past n how
asked_unended Reach.to_the_end past n how h = h
asked_unended Reach.cut_off past n how h = inl h

before_any : (reach : Reach) (past : Past) (n : Name) (how : Option How) → StopsBefore Reach.to_the_end past n how → StopsBefore reach past n how
before_any reach past n how (inl h) = inl (asked_unended reach past n how h)
before_any reach past n how (inr h) = inr h

goes_any : (reach : Reach) (past : Past) (n : Name) (o : Option How) (Rest Rest2 : Answer → Type 0) (further : List Deed) (how : Option How) → ((given : Answer) → Rest given → Rest2 given) → GoesOn Reach.to_the_end past n o Rest further how → GoesOn reach past n o Rest2 further how
goes_any reach past n None Rest Rest2 further how step h = absurd h
goes_any reach past n (Some (Commit given)) Rest Rest2 further how step h = step given h
goes_any reach past n (Some (Abort c)) Rest Rest2 further how step h = (
  h.0,
  elim h.1 [
    | inl is ↦ inl is
    | inr x ↦ inr (stops_early reach past n how x)
  ],
)

after_any : (reach : Reach) (past : Past) (n child : Name) (o : Option How) (Rest Rest2 : Type 0) (further : List Deed) (how : Option How) → (Rest → Rest2) → GoesOnAfter Reach.to_the_end past n child o Rest further how → GoesOnAfter reach past n child o Rest2 further how
after_any reach past n child None Rest Rest2 further how step h = absurd h
after_any reach past n child (Some (Commit given)) Rest Rest2 further how step h = step h
after_any reach past n child (Some (Abort c)) Rest Rest2 further how step h = (
  h.0,
  elim h.1 [
    | inl is ↦ inl is
    | inr x ↦ inr (stops_early reach past n how x)
  ],
)

behind_any : (reach : Reach) (past : Past) (n : Name) (last : Option Deed) (must : Bool) (Rest Rest2 : Type 0) (further : List Deed) (how : Option How) → (Rest → Rest2) → AfterTries Reach.to_the_end past n last must Rest further how → AfterTries reach past n last must Rest2 further how
behind_any reach past n None must Rest Rest2 further how step h = step h
behind_any reach past n (Some d) false Rest Rest2 further how step h = step h
behind_any reach past n (Some (Deed.child child)) true Rest Rest2 further how step h = after_any reach past n child (end past child) Rest Rest2 further how step h
behind_any reach past n (Some (Deed.mark m)) true Rest Rest2 further how step h = absurd h

row_any : (reach : Reach) (past : Past) (n : Name) (tried : Bool) (failed : Option Deed) (Rest Rest2 : Type 0) (further : List Deed) (how : Option How) → (Rest → Rest2) → AfterRow Reach.to_the_end past n tried failed Rest further how → AfterRow reach past n tried failed Rest2 further how
row_any reach past n true failed Rest Rest2 further how step h = behind_any reach past n failed true Rest Rest2 further how step h
row_any reach past n false failed Rest Rest2 further how step h = (h.0, stops_early reach past n how h.1)

-- a try of a child of a body
abbrev pub IsTryOf : Reach → ℕ → Past → ℕ → Plan → Name → Type 0
IsTryOf reach s past number inner c = (kind_of past c ≡ Some (kind.User s number)) × RunsPlan reach s past c inner (deeds past c) (end past c)

-- and it was started under the seat of this name
abbrev pub IsTryBeside : Reach → ℕ → Past → Name → ℕ → Plan → Name → Type 0
IsTryBeside reach s past n number inner c = IsTrue (is_beside past n c) × (kind_of past c ≡ Some (kind.User s number)) × RunsPlan reach s past c inner (deeds past c) (end past c)

-- a try of a branch of a row, all of which were begun or not
abbrev pub IsRowTry : Reach → ℕ → Past → Bool → ℕ → Plan → Name → Type 0
IsRowTry reach s past all_begun number inner c = (kind_of past c ≡ Some (kind.User s number)) × MatchBool all_begun (RunsPlan reach s past c inner (deeds past c) (end past c)) (WasTurnedBack reach past c)

-- a branch that was turned back in a run that came to its end has ended
pub turned_ended : (past : Past) (c : Name) → WasTurnedBack Reach.to_the_end past c → is_some (end past c) ≡ true
turned_ended past c h = elim h.1 [
  | inl orphan ↦ by_orphan (end past c) orphan
  | inr asked ↦ by_asked (end past c) asked
]
  where
    by_orphan : (o : Option How) → WasOrphan o → is_some o ≡ true
    by_orphan None g = absurd g
    by_orphan (Some how) g = refl

    by_asked : (o : Option How) → WasAsked c o → is_some o ≡ true
    by_asked None g = absurd g
    by_asked (Some how) g = refl

turned_any : (reach : Reach) (past : Past) (c : Name) → WasTurnedBack Reach.to_the_end past c → WasTurnedBack reach past c
turned_any reach past c h = (
  h.0,
  elim h.1 [
    | inl orphan ↦ inl orphan
    | inr asked ↦ inr (asked_unended reach past c (end past c) asked)
  ],
)

-- a try of a row has ended, or is ready
pub row_try_done : (s : ℕ) (past : Past) (all_begun : Bool) (number : ℕ) (inner : Plan) (c : Name) → IsRowTry Reach.to_the_end s past all_begun number inner c → Closed past c
row_try_done s past true number inner c h = done_closed past c (followed_done s past c inner (deeds past c) (end past c) h.1)
row_try_done s past false number inner c h = inl (turned_ended past c h.1)

beside_runs : (reach : Reach) (s : ℕ) (past : Past) (n : Name) (number : ℕ) (inner : Plan) → ((c : Name) → FollowsPlan s past c inner (deeds past c) (end past c) → RunsPlan reach s past c inner (deeds past c) (end past c))
    → (d : Deed) → OfChild (IsTryBeside Reach.to_the_end s past n number inner) d → OfChild (IsTryBeside reach s past n number inner) d
beside_runs reach s past n number inner step (Deed.child c) h = (h.0, h.1, step c h.2)
beside_runs reach s past n number inner step (Deed.mark m) h = h

row_try_runs : (reach : Reach) (s : ℕ) (past : Past) (all_begun : Bool) (number : ℕ) (inner : Plan) → ((c : Name) → FollowsPlan s past c inner (deeds past c) (end past c) → RunsPlan reach s past c inner (deeds past c) (end past c))
    → (d : Deed) → OfChild (IsRowTry Reach.to_the_end s past all_begun number inner) d → OfChild (IsRowTry reach s past all_begun number inner) d
row_try_runs reach s past true number inner step (Deed.child c) h = (h.0, step c h.1)
row_try_runs reach s past false number inner step (Deed.child c) h = (h.0, turned_any reach past c h.1)
row_try_runs reach s past all_begun number inner step (Deed.mark m) h = h

mutual
  pub follows_runs : (reach : Reach) (s : ℕ) (past : Past) (n : Name) (plan : Plan) (cs : List Deed) (how : Option How) → FollowsPlan s past n plan cs how → RunsPlan reach s past n plan cs how
  follows_runs reach s past n Plan.done [] how (inl is) = inl is
  follows_runs reach s past n Plan.done [] how (inr x) = inr (stops_early reach past n how x)
  follows_runs reach s past n Plan.done (c ∷ cs) how h = absurd h
  follows_runs reach s past n (Plan.manage_by k next) [] how h = stops_early reach past n how h
  follows_runs reach s past n (Plan.manage_by k next) (Deed.child c ∷ cs) how h = (
    h.0,
    h.1,
    goes_any reach past n (end past c) (λ given. FollowsPlan s past n (next given) cs how) (λ given. RunsPlan reach s past n (next given) cs how) cs how (λ given. follows_runs reach s past n (next given) cs how) h.2,
  )
  follows_runs reach s past n (Plan.manage_by k next) (Deed.mark m ∷ cs) how h = absurd h
  follows_runs reach s past n (Plan.child_then number tries must inner rest) cs how h =
      tries_wider (deed_end past) _ _ (StopsEarly n how) (Stops reach past n how) (λ last further. AfterTries Reach.to_the_end past n last must (FollowsPlan s past n rest further how) further how)
      (λ last further. AfterTries reach past n last must (RunsPlan reach s past n rest further how) further how) (beside_runs reach s past n number inner (λ c. follows_runs reach s past c inner (deeds past c) (end past c))) (stops_early reach past n how)
      (λ last further f. behind_any reach past n last must (FollowsPlan s past n rest further how) (RunsPlan reach s past n rest further how) further how (follows_runs reach s past n rest further how) f) None tries cs h
  follows_runs reach s past n (Plan.par_then branches rest) cs how h = (
    h.0,
    h.1,
    h.2,
    h.3,
    row_runs reach s past (each_begun past branches h.0) branches h.0 h.4,
    row_any reach past n (each_tried past false branches h.0) (first_failed past branches h.0) (FollowsPlan s past n rest h.1 how) (RunsPlan reach s past n rest h.1 how) h.1 how (follows_runs reach s past n rest h.1 how) h.5,
  )
  follows_runs reach s past n (Plan.abort_then levels rest) [] how (inl is) = inl is
  follows_runs reach s past n (Plan.abort_then levels rest) [] how (inr x) = inr (before_any reach past n how x)
  follows_runs reach s past n (Plan.abort_then levels rest) (c ∷ cs) how h = absurd h
  follows_runs reach s past n (Plan.crash_then copy rest) cs how h = follows_runs reach s past n rest cs how h
  follows_runs reach s past n (Plan.kill_then session rest) [] how h = before_any reach past n how h
  follows_runs reach s past n (Plan.kill_then session rest) (Deed.child c ∷ cs) how h = absurd h
  follows_runs reach s past n (Plan.kill_then session rest) (Deed.mark m ∷ cs) how h = (h.0, by_test (session == s) h.1 (follows_runs reach s past n rest cs how))
    where
      by_test : (b : Bool) → MatchBool b ((cs ≡ []) × StopsBefore Reach.to_the_end past n how) (FollowsPlan s past n rest cs how) → (FollowsPlan s past n rest cs how → RunsPlan reach s past n rest cs how)
          → MatchBool b ((cs ≡ []) × StopsBefore reach past n how) (RunsPlan reach s past n rest cs how)
      by_test true x more = (x.0, before_any reach past n how x.1)
      by_test false x more = more x

  pub row_runs : (reach : Reach) (s : ℕ) (past : Past) (all_begun : Bool) (branches : Plan) (ds : List Deed) → RunsRow Reach.to_the_end s past all_begun branches ds → RunsRow reach s past all_begun branches ds
  row_runs reach s past all_begun (Plan.child_then number tries must inner others) ds h = (
    all_map _ _ (row_try_runs reach s past all_begun number inner (λ c. follows_runs reach s past c inner (deeds past c) (end past c))) (tries_among past number ds) h.0,
    row_runs reach s past all_begun others ds h.1,
  )
  row_runs reach s past all_begun _ ds h = h
