-- Who is aborted as another asked, over several calls, and for ever.
use Rattle.std.proofs.Common.{◌≡◌, ◌⊎◌, inl, inr, ℕ, zero, suc, Bool, true, false, List, [], ◌∷◌, ◌++◌, refl, sym, ap, ◌∙◌, subst, append_assoc, filter}
use mathlib.Core.Bool.{true≢false}
use Rattle.std.specs.Prelude.{◌==◌, Option, None, Some, MatchBool, IsTrue, not}
use Rattle.std.specs.List.{AllByRecursion}
use Rattle.qc_event.specs.declared.event.Answer.{Answer}
use Rattle.qc_event.specs.declared.event.Cause.{Cause}
use Rattle.qc_event.specs.declared.event.Cause.TheVariants as cause
use Rattle.qc_event.specs.declared.event.Entry.{Entry}
use Rattle.qc_event.specs.declared.event.Event.{Event}
use Rattle.qc_event.specs.declared.event.Event.TheVariants as event
use Rattle.qc_event.specs.declared.event.How.{How}
use Rattle.qc_event.specs.declared.event.How.TheVariants.{Commit, Abort}
use Rattle.qc_event.specs.Base.{Setting}
use Rattle.qc_event.specs.History.{Past, Name, end}
use Rattle.qc_event.specs.Legal.{Legal}
use Rattle.qc_interp.specs.Asking.{DoesOn, DoesAfter, DoesInRow, Asks, RowAsks, IsAskedBy, AllAsked, ByItself}
use Rattle.qc_script.specs.Calls.{IsOfAccess, is_asked}
use Rattle.qc_script.specs.Client.{Client, mine, Made}
use Rattle.qc_interp.specs.Follows.{GoesOn, GoesOnAfter, AfterTries, AfterRow, RunsRow, FollowsPlan, StopsEarly, StopsBefore, WasAsked, WasKilled}
use Rattle.qc_script.specs.Plan.{Plan}
use Rattle.qc_interp.specs.Reach.{Reach}
use Rattle.qc_interp.specs.Rows.{OneOf, each_begun, each_tried, first_failed, tries_among}
use Rattle.qc_interp.specs.Tries.{Tries, TriesDo, is_tried_again}
use Rattle.qc_interp.proofs.Listing.Lists.{all_join}
use Rattle.qc_interp.proofs.Scopes.Growth.{made_is}
use Rattle.qc_interp.specs.Deeds.{Deed, deeds, deed_end, OfChild}
use Rattle.qc_interp.proofs.Following.Deeds.{deeds_still}
use Rattle.qc_interp.proofs.Scopes.Mine.{Closed, CommittedSince, how_still, end_some}
use Rattle.qc_interp.proofs.Rows.SameDeeds.{IsSameTry, one_map, among_alike, begun_alike, each_alike, at_once_alike, same_front}
use Rattle.qc_interp.proofs.Stepping.Stopping.{stopped_runs}
use Rattle.qc_interp.proofs.Following.Followed.{IsTryBeside, IsRowTry}
use Rattle.qc_interp.proofs.Following.Still.{deed_again_still, child_still, plan_still, same_tries, first_failed_still}

abbrev pub NoOne : Name → Name → Type 0
NoOne by target = ⊥

module _ (Q R : Name → Name → Type 0) (step : (by target : Name) → Q by target → R by target) where
  pub wider_one : (ev : Event) → IsAskedBy Q ev → IsAskedBy R ev
  wider_one (event.End target (Abort (cause.Asked by))) (inl h) = inl h
  wider_one (event.End target (Abort (cause.Asked by))) (inr h) = inr (step by target h)
  wider_one (event.End target (Commit given)) h = tt
  wider_one (event.End target (Abort (cause.Orphan a))) h = tt
  wider_one (event.End target (Abort (cause.Conflict copy holder))) h = tt
  wider_one (event.End target (Abort (cause.NoQuorum lack))) h = tt
  wider_one (event.End target (Abort cause.Last)) h = tt
  wider_one (event.End target (Abort cause.Killed)) h = tt
  wider_one (event.End target (Abort (cause.Child x))) h = tt
  wider_one (event.End target (Abort cause.Missed)) h = tt
  wider_one (event.Start n k) h = tt
  wider_one (event.Ask ask) h = tt
  wider_one (event.Gone n why) h = tt
  wider_one (event.Granted copy grant) h = tt
  wider_one (event.Refused n copy refusal) h = tt
  wider_one (event.Unable n why) h = tt
  wider_one (event.Mark n session) h = tt
  wider_one (event.Ready n) h = tt

  pub wider_all : (es : Past) → AllByRecursion (λ (e : Entry). IsAskedBy Q e.event) es → AllByRecursion (λ (e : Entry). IsAskedBy R e.event) es
  wider_all [] h = tt
  wider_all (e ∷ es) h = (wider_one e.event h.0, wider_all es h.1)

  pub asked_wider : (c : Client) (before now : Past) → AllAsked c before now Q → AllAsked c before now R
  asked_wider c before now h = (h.0, h.1, wider_all h.0 h.2)

pub asked_none : (c : Client) (before now : Past) (Q : Name → Name → Type 0) → AllAsked c before now NoOne → AllAsked c before now Q
asked_none c before now Q h = asked_wider NoOne Q (λ by target x. absurd x) c before now h

pub asked_trans : (c : Client) (a b d : Past) (Q : Name → Name → Type 0) → AllAsked c a b Q → AllAsked c b d Q → AllAsked c a d Q
asked_trans c a b d Q f g = (g.0 ++ f.0, g.1 ∙ ap (λ x. g.0 ++ x) f.1 ∙ sym (append_assoc g.0 f.0 (mine c a)), all_join (λ (e : Entry). IsAskedBy Q e.event) g.0 f.0 g.2 f.2)

pub asked_made : (c : Client) (es before now : Past) (Q : Name → Name → Type 0) → Made c es before now → AllByRecursion (λ (e : Entry). IsAskedBy Q e.event) es → AllAsked c before now Q
asked_made c es before now Q m all = (es, made_is c es before now m, all)

-- BY THE CALLS

pub itself_end : (n : Name) (x : Cause) → ByItself n x → IsAskedBy NoOne (event.End n (Abort x))
itself_end n (cause.Asked by) h = inl (sym h)
itself_end n (cause.Orphan a) h = tt
itself_end n (cause.Conflict copy holder) h = tt
itself_end n (cause.NoQuorum lack) h = tt
itself_end n cause.Last h = tt
itself_end n cause.Killed h = tt
itself_end n (cause.Child x) h = tt
itself_end n cause.Missed h = tt

pub unasked_end : (n : Name) (how : How) → IsTrue (not (is_asked how)) → IsAskedBy NoOne (event.End n how)
unasked_end n (Commit given) h = tt
unasked_end n (Abort (cause.Asked by)) h = absurd (true≢false (sym h))
unasked_end n (Abort (cause.Orphan a)) h = tt
unasked_end n (Abort (cause.Conflict copy holder)) h = tt
unasked_end n (Abort (cause.NoQuorum lack)) h = tt
unasked_end n (Abort cause.Last) h = tt
unasked_end n (Abort cause.Killed) h = tt
unasked_end n (Abort (cause.Child x)) h = tt
unasked_end n (Abort cause.Missed) h = tt

access_unasked : (m : Name) (ev : Event) → IsOfAccess m ev → IsAskedBy NoOne ev
access_unasked m (event.End n how) h = unasked_end n how h.1
access_unasked m (event.Start n k) h = tt
access_unasked m (event.Ask ask) h = tt
access_unasked m (event.Gone n why) h = tt
access_unasked m (event.Granted copy grant) h = tt
access_unasked m (event.Refused n copy refusal) h = tt
access_unasked m (event.Unable n why) h = tt
access_unasked m (event.Mark n session) h = tt
access_unasked m (event.Ready n) h = tt

pub accesses_unasked : (m : Name) (inner rest : Past) → AllByRecursion (λ (e : Entry). IsOfAccess m e.event) inner → AllByRecursion (λ (e : Entry). IsAskedBy NoOne e.event) rest → AllByRecursion (λ (e : Entry). IsAskedBy NoOne e.event) (inner ++ rest)
accesses_unasked m [] rest all more = more
accesses_unasked m (e ∷ inner) rest all more = (access_unasked m e.event all.0, accesses_unasked m inner rest all.1 more)

-- by one of the branches at once, each of which was begun
abbrev pub BranchAsks : Past → Plan → List Deed → Name → Name → Type 0
BranchAsks past branches here by target = IsTrue (each_begun past branches here) × RowAsks past branches here by target

-- by branches at once, or behind them
abbrev RowDoes : Past → Plan → List Deed → Name → Name → List Deed → Type 0 → Type 0
RowDoes past branches here by target further Does = DoesInRow past (each_tried past false branches here) (first_failed past branches here) (BranchAsks past branches here by target) further Does

-- FOR EVER

module _ (s : ℕ) (p : Entry → Bool) (setting : Setting) (newer past : Past) (legal : Legal setting (newer ++ past)) (by target : Name) where
  abbrev old : Past
  old = filter p past

  abbrev now : Past
  now = filter p (newer ++ past)

  does_still : (n c : Name) (Follows Does DoesNow : Answer → Type 0) (further : List Deed) (how : Option How) → ((given : Answer) → Follows given → Does given → DoesNow given) → (o : Option How) → end old c ≡ o → GoesOn Reach.to_the_end old n o Follows further how → DoesOn o Does → DoesOn (end now c) DoesNow
  does_still n c Follows Does DoesNow further how step None is follows h = absurd h
  does_still n c Follows Does DoesNow further how step (Some (Abort x)) is follows h = absurd h
  does_still n c Follows Does DoesNow further how step (Some (Commit given)) is follows h = subst (λ o. DoesOn o DoesNow) (sym (end_some p setting newer past c (Commit given) is)) (step given follows h)

  tries_do_still : (IsTry Does DoesNow : Deed → Type 0) (Stopped : Type 0) (Rest RestDoes RestDoesNow : Option Deed → List Deed → Type 0)
      → ((c : Deed) → IsTry c → OfChild (Closed old) c × (Does c → DoesNow c)) → ((last : Option Deed) (cs : List Deed) → Rest last cs → RestDoes last cs → RestDoesNow last cs)
      → (last : Option Deed) (left : ℕ) (cs : List Deed) → Tries (deed_end old) IsTry Stopped Rest last left cs → TriesDo (deed_end old) Does RestDoes last left cs → TriesDo (deed_end now) DoesNow RestDoesNow last left cs
  tries_do_still IsTry Does DoesNow Stopped Rest RestDoes RestDoesNow try rest last zero cs h d = rest last cs h d
  tries_do_still IsTry Does DoesNow Stopped Rest RestDoes RestDoesNow try rest last (suc left) [] h d = absurd d
  tries_do_still IsTry Does DoesNow Stopped Rest RestDoes RestDoesNow try rest last (suc left) (c ∷ cs) h (inl d) = inl ((try c h.0).1 d)
  tries_do_still IsTry Does DoesNow Stopped Rest RestDoes RestDoesNow try rest last (suc left) (c ∷ cs) h (inr d) =
      inr (subst (λ b. MatchBool b (TriesDo (deed_end now) DoesNow RestDoesNow (Some c) left cs) (RestDoesNow (Some c) cs)) (sym (deed_again_still s p setting newer past legal c (try c h.0).0))
      (by_test (is_tried_again (deed_end old c)) h.1 d (tries_do_still IsTry Does DoesNow Stopped Rest RestDoes RestDoesNow try rest (Some c) left cs)))
    where
      by_test : (b : Bool) → MatchBool b (Tries (deed_end old) IsTry Stopped Rest (Some c) left cs) (Rest (Some c) cs) → MatchBool b (TriesDo (deed_end old) Does RestDoes (Some c) left cs) (RestDoes (Some c) cs)
          → (Tries (deed_end old) IsTry Stopped Rest (Some c) left cs → TriesDo (deed_end old) Does RestDoes (Some c) left cs → TriesDo (deed_end now) DoesNow RestDoesNow (Some c) left cs)
          → MatchBool b (TriesDo (deed_end now) DoesNow RestDoesNow (Some c) left cs) (RestDoesNow (Some c) cs)
      by_test true h d more = more h d
      by_test false h d more = rest (Some c) cs h d

  child_asks_still : (inner : Plan) → ((c : Name) → Closed old c → FollowsPlan s old c inner (deeds old c) (end old c) → Asks old c inner (deeds old c) by target → Asks now c inner (deeds old c) by target)
      → (c : Name) → FollowsPlan s old c inner (deeds old c) (end old c) → Closed old c × (Asks old c inner (deeds old c) by target → Asks now c inner (deeds now c) by target)
  child_asks_still inner step c f =
      let closed = (child_still s p setting newer past legal c inner (plan_still s p setting newer past legal c inner) f).1 in
      (closed, λ a. subst (λ xs. Asks now c inner xs by target) (sym (deeds_still p setting newer past c legal closed)) (step c closed f a))

  try_asks_still : (n : Name) (number : ℕ) (inner : Plan) → ((c : Name) → Closed old c → FollowsPlan s old c inner (deeds old c) (end old c) → Asks old c inner (deeds old c) by target → Asks now c inner (deeds old c) by target)
      → (d : Deed) → OfChild (IsTryBeside Reach.to_the_end s old n number inner) d → OfChild (Closed old) d × (OfChild (λ c. Asks old c inner (deeds old c) by target) d → OfChild (λ c. Asks now c inner (deeds now c) by target) d)
  try_asks_still n number inner step (Deed.child c) t = child_asks_still inner step c t.2
  try_asks_still n number inner step (Deed.mark m) t = absurd t

  row_try_asks_still : (number : ℕ) (inner : Plan) → ((c : Name) → Closed old c → FollowsPlan s old c inner (deeds old c) (end old c) → Asks old c inner (deeds old c) by target → Asks now c inner (deeds old c) by target)
      → (d : Deed) → OfChild (IsRowTry Reach.to_the_end s old true number inner) d → OfChild (λ c. Asks old c inner (deeds old c) by target) d → OfChild (λ c. Asks now c inner (deeds now c) by target) d
  row_try_asks_still number inner step (Deed.child c) t = (child_asks_still inner step c t.1).1
  row_try_asks_still number inner step (Deed.mark m) t = absurd t

  does_after_still : (n child : Name) (Follows Does DoesNow : Type 0) (further : List Deed) (how : Option How) → (Follows → Does → DoesNow) → (o : Option How) → end old child ≡ o → GoesOnAfter Reach.to_the_end old n child o Follows further how → DoesOn o (λ given. Does) → DoesOn (end now child) (λ given. DoesNow)
  does_after_still n child Follows Does DoesNow further how step None is follows h = absurd h
  does_after_still n child Follows Does DoesNow further how step (Some (Abort x)) is follows h = absurd h
  does_after_still n child Follows Does DoesNow further how step (Some (Commit given)) is follows h = subst (λ o. DoesOn o (λ told. DoesNow)) (sym (end_some p setting newer past child (Commit given) is)) (step follows h)

  does_behind_still : (n : Name) (last : Option Deed) (must : Bool) (Follows Does DoesNow : Type 0) (further : List Deed) (how : Option How) → (Follows → Does → DoesNow) → AfterTries Reach.to_the_end old n last must Follows further how → DoesAfter old last must Does → DoesAfter now last must DoesNow
  does_behind_still n None must Follows Does DoesNow further how step h d = step h d
  does_behind_still n (Some tried) false Follows Does DoesNow further how step h d = step h d
  does_behind_still n (Some (Deed.child child)) true Follows Does DoesNow further how step h d = does_after_still n child Follows Does DoesNow further how step (end old child) refl h d
  does_behind_still n (Some (Deed.mark m)) true Follows Does DoesNow further how step h d = absurd h

  -- who was not killed never is, where it is closed
  unkilled_still : (n : Name) → Closed old n → (WasKilled (end old n) → ⊥) → WasKilled (end now n) → ⊥
  unkilled_still n closed alive = elim (how_still p setting newer past n legal closed) [
    | inl is ↦ λ killed. alive (subst WasKilled is killed)
    | inr since ↦ by_end (end old n) (end now n) since
  ]
    where
      by_end : (a b : Option How) → CommittedSince a b → WasKilled b → ⊥
      by_end a None since killed = since
      by_end a (Some (Abort c)) since killed = since
      by_end a (Some (Commit given)) since killed = killed

  asked_still : (n : Name) (o : Option How) → end old n ≡ o → WasAsked n o → WasAsked n (end now n)
  asked_still n None is h = absurd h
  asked_still n (Some how) is h = subst (WasAsked n) (sym (end_some p setting newer past n how is)) h

  row_out : (n : Name) (tried : Bool) (failed : Option Deed) (Rest : Type 0) (further : List Deed) (how : Option How) → AfterRow Reach.to_the_end old n tried failed Rest further how → (tried ≡ true) ⊎ (further ≡ [])
  row_out n true failed Rest further how h = inl refl
  row_out n false failed Rest further how h = inr h.0

  does_out : (tried : Bool) (failed : Option Deed) (One : Type 0) (further : List Deed) (Does : Type 0) → DoesInRow old tried failed One further Does → (tried ≡ true) ⊎ (further ≡ [])
  does_out true failed One further Does h = inl refl
  does_out false failed One further Does h = inr h.0

  does_in_row_still : (n : Name) (branches : Plan) (here further : List Deed) (how : Option How) (Follows Does DoesNow : Type 0) → AllByRecursion (IsSameTry old now) here → (tried : Bool)
      → (BranchAsks old branches here by target → BranchAsks now branches here by target) → (Follows → Does → DoesNow) → AfterRow Reach.to_the_end old n tried (first_failed old branches here) Follows further how
      → DoesInRow old tried (first_failed old branches here) (BranchAsks old branches here by target) further Does → DoesInRow now tried (first_failed now branches here) (BranchAsks now branches here by target) further DoesNow
  does_in_row_still n branches here further how Follows Does DoesNow same true one step h (inl d) = inl (one d)
  does_in_row_still n branches here further how Follows Does DoesNow same true one step h (inr d) =
      inr (subst (λ o. DoesAfter now o true DoesNow) (first_failed_still s p setting newer past legal n branches here further how Follows same h)
      (does_behind_still n (first_failed old branches here) true Follows Does DoesNow further how step h d))
  does_in_row_still n branches here further how Follows Does DoesNow same false one step h d = (d.0, one d.1)

  mutual
    plan_asks_still : (n : Name) → Closed old n → (plan : Plan) (cs : List Deed) (how : Option How) → FollowsPlan s old n plan cs how → Asks old n plan cs by target → Asks now n plan cs by target
    plan_asks_still n closed Plan.done cs how h d = absurd d
    plan_asks_still n closed (Plan.manage_by k next) [] how h d = absurd d
    plan_asks_still n closed (Plan.manage_by k next) (Deed.child c ∷ cs) how h d =
        does_still n c (λ given. FollowsPlan s old n (next given) cs how) (λ given. Asks old n (next given) cs by target) (λ given. Asks now n (next given) cs by target) cs how
        (λ given. plan_asks_still n closed (next given) cs how) (end old c) refl h.2 d
    plan_asks_still n closed (Plan.manage_by k next) (Deed.mark m ∷ cs) how h d = absurd h
    plan_asks_still n closed (Plan.child_then number tries must inner rest) cs how h d =
        tries_do_still (OfChild (IsTryBeside Reach.to_the_end s old n number inner)) (OfChild (λ c. Asks old c inner (deeds old c) by target)) (OfChild (λ c. Asks now c inner (deeds now c) by target)) (StopsEarly n how) (λ last further. AfterTries Reach.to_the_end old n last must (FollowsPlan s old n rest further how) further how)
        (λ last further. DoesAfter old last must (Asks old n rest further by target)) (λ last further. DoesAfter now last must (Asks now n rest further by target))
        (try_asks_still n number inner (λ c below. plan_asks_still c below inner (deeds old c) (end old c)))
        (λ last further f a. does_behind_still n last must (FollowsPlan s old n rest further how) (Asks old n rest further by target) (Asks now n rest further by target) further how (plan_asks_still n closed rest further how) f a) None tries cs h d
    plan_asks_still n closed (Plan.par_then branches rest) cs how h d =
        let same = same_tries s p setting newer past legal (each_begun old branches h.0) branches h.0 h.3.0 h.4 in
        let front = same_front old branches h.0 h.1 d.0 d.1 (sym h.2 ∙ d.2) h.3.0 d.3 (row_out n (each_tried old false branches h.0) (first_failed old branches h.0) _ h.1 how h.5) (does_out (each_tried old false branches d.0) (first_failed old branches d.0) _ d.1 _ d.4) in
        let there = subst (λ l. RowDoes old branches l by target d.1 (Asks old n rest d.1 by target)) (sym front.0) d.4 in
        let does = subst (λ l. RowDoes old branches h.0 by target l (Asks old n rest l by target)) (sym front.1) there in (
          h.0,
          h.1,
          h.2,
          sym (at_once_alike old now branches h.0 same) ∙ h.3.0,
          subst (λ b. DoesInRow now b (first_failed now branches h.0) (BranchAsks now branches h.0 by target) h.1 (Asks now n rest h.1 by target)) (each_alike old now false branches h.0 same)
              (does_in_row_still n branches h.0 h.1 how (FollowsPlan s old n rest h.1 how) (Asks old n rest h.1 by target) (Asks now n rest h.1 by target) same (each_tried old false branches h.0) (λ asks. (sym (begun_alike old now branches h.0 same) ∙ asks.0, row_asks_still branches h.0 same (subst (λ b. RunsRow Reach.to_the_end s old b branches h.0) asks.0 h.4) asks.1)) (plan_asks_still n closed rest h.1 how) h.5 does),
        )
    plan_asks_still n closed (Plan.abort_then levels rest) [] how h d = (d.0, d.1, unkilled_still n closed d.2)
    plan_asks_still n closed (Plan.abort_then levels rest) (c ∷ cs) how h d = absurd d
    plan_asks_still n closed (Plan.crash_then copy rest) cs how h d = plan_asks_still n closed rest cs how h d
    plan_asks_still n closed (Plan.kill_then session rest) [] how h d =
        (asked_still n (end old n) refl d.0, plan_asks_still n closed rest [] how (stopped_runs Reach.to_the_end s old n how h rest) d.1)
    plan_asks_still n closed (Plan.kill_then session rest) (Deed.child c ∷ cs) how h d = absurd h
    plan_asks_still n closed (Plan.kill_then session rest) (Deed.mark m ∷ cs) how h d = by_test (session == s) h.1 (plan_asks_still n closed rest cs how)
      where
        by_test : (b : Bool) → MatchBool b ((cs ≡ []) × StopsBefore Reach.to_the_end old n how) (FollowsPlan s old n rest cs how) → (FollowsPlan s old n rest cs how → Asks old n rest cs by target → Asks now n rest cs by target) → Asks now n rest cs by target
        by_test true x more = more (subst (λ l. FollowsPlan s old n rest l how) (sym x.0) (stopped_runs Reach.to_the_end s old n how x.1 rest)) d
        by_test false x more = more x d

    pub row_asks_still : (branches : Plan) (ds : List Deed) → AllByRecursion (IsSameTry old now) ds → RunsRow Reach.to_the_end s old true branches ds → RowAsks old branches ds by target → RowAsks now branches ds by target
    row_asks_still (Plan.child_then number tries must inner others) ds same h (inl one) =
        inl (subst (OneOf (OfChild (λ c. Asks now c inner (deeds now c) by target))) (among_alike old now number ds same)
        (one_map _ _ _ (row_try_asks_still number inner (λ c below. plan_asks_still c below inner (deeds old c) (end old c))) (tries_among old number ds) h.0 one))
    row_asks_still (Plan.child_then number tries must inner others) ds same h (inr more) = inr (row_asks_still others ds same h.1 more)
    row_asks_still Plan.done ds same h d = absurd d
    row_asks_still (Plan.manage_by k next) ds same h d = absurd d
    row_asks_still (Plan.par_then branches rest) ds same h d = absurd d
    row_asks_still (Plan.abort_then levels rest) ds same h d = absurd d
    row_asks_still (Plan.crash_then copy rest) ds same h d = absurd d
    row_asks_still (Plan.kill_then session rest) ds same h d = absurd d

  -- what was asked for by a transaction that has ended was asked for ever
  pub asks_still : (n : Name) (plan : Plan) → FollowsPlan s old n plan (deeds old n) (end old n) → Asks old n plan (deeds old n) by target → Asks now n plan (deeds now n) by target
  asks_still n plan h d =
      let closed = (child_still s p setting newer past legal n plan (plan_still s p setting newer past legal n plan) h).1 in
      subst (λ xs. Asks now n plan xs by target) (sym (deeds_still p setting newer past n legal closed)) (plan_asks_still n closed plan (deeds old n) (end old n) h d)
