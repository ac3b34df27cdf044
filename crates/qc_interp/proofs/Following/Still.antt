-- Who follows a plan, by some entries of a legal history, follows it by those of each later one.
use Rattle.std.proofs.Common.{◌≡◌, ◌⊎◌, inl, inr, ℕ, zero, suc, Bool, true, false, List, [], ◌∷◌, ◌++◌, refl, sym, ap, ◌∙◌, subst, filter}
use mathlib.Core.Bool.{true≢false}
use Rattle.std.specs.Prelude.{◌==◌, ◌||◌, Option, None, Some, MatchBool, is_some}
use Rattle.std.specs.List.{AllByRecursion}
use Rattle.std.specs.Option.{option_map, option_map_or}
use Rattle.std.proofs.lemmas.Bool.{and_parts, and_from}
use Rattle.qc_event.specs.declared.event.Answer.{Answer}
use Rattle.qc_event.specs.declared.event.Entry.{Entry}
use Rattle.qc_event.specs.declared.event.How.{How}
use Rattle.qc_event.specs.declared.event.How.TheVariants.{Commit, Abort}
use Rattle.qc_event.specs.Base.{Setting}
use Rattle.qc_event.specs.declared.event.Kind.{Kind}
use Rattle.qc_event.specs.History.{Past, Name, Begun, start, end, is_ready, kind_of}
use Rattle.qc_event.specs.Legal.{Legal}
use Rattle.qc_event.proofs.Histories.{earliest-append}
use Rattle.qc_event.proofs.OneEntry.{stays_some}
use Rattle.qc_script.specs.Plan.{Plan}
use Rattle.qc_interp.specs.Deeds.{Deed, deeds, deed_end, OfChild}
use Rattle.qc_interp.specs.Tries.{Tries, is_tried_again}
use Rattle.qc_interp.specs.Follows.{StopsEarly, HasNotEnded, StopsBefore, WasOrphan, WasTurnedBack, GoesOn, GoesOnAfter, AfterTries, AfterRow, Commits, RunsRow, FollowsPlan}
use Rattle.qc_interp.specs.Rows.{AreAtOnce, is_of_body, is_try, tries_among, is_try_in, each_begun, each_tried, first_failed, are_tries_at_once, deed_idle, next_starts, begin_first}
use Rattle.qc_interp.specs.Turns.{is_beside}
use Rattle.qc_interp.specs.Reach.{Reach}
use Rattle.qc_interp.proofs.Following.Behind.{is_behind_still, started_once}
use Rattle.qc_interp.proofs.Scopes.Beside.{IsSameSeat, beside_later, own_seat_alike, seats_later}
use Rattle.qc_interp.proofs.Scopes.Mine.{Closed, CommittedSince, how_still, end_some, kind_still, kept_append, some_is}
use Rattle.qc_interp.proofs.Following.Deeds.{deeds_still}
use Rattle.qc_interp.proofs.Rows.SameDeeds.{IsSameTry, all_map, all_both, all_each, all_passing, all_passed, among_pass, among_alike, begun_alike, each_alike, at_once_alike, failed_stays, at_once, unknown_in}
use Rattle.qc_interp.proofs.Trying.TriesAlike.{IfAny}
use Rattle.qc_interp.proofs.Following.Followed.{IsTryBeside, IsRowTry, plan_committed, followed_done, followed_ready, done_closed, row_try_done, turned_ended}

module _ (s : ℕ) (p : Entry → Bool) (setting : Setting) (newer past : Past) (legal : Legal setting (newer ++ past)) where
  abbrev old : Past
  old = filter p past

  abbrev now : Past
  now = filter p (newer ++ past)

  commits_still : (n : Name) (how : Option How) → Commits old n how → Commits now n how
  commits_still n None h = ap (λ x. is_ready x n) (kept_append p newer past) ∙ ap is_some (earliest-append _ (filter p newer) old) ∙ stays_some _ _ h
  commits_still n (Some (Commit given)) h = tt
  commits_still n (Some (Abort c)) h = absurd h

  goes_still : (n c : Name) (Rest RestNow : Answer → Type 0) (further : List Deed) (how : Option How) → ((given : Answer) → Rest given → RestNow given) → (o : Option How) → end old c ≡ o → GoesOn Reach.to_the_end old n o Rest further how → GoesOn Reach.to_the_end now n (end now c) RestNow further how
  goes_still n c Rest RestNow further how step None is h = absurd h
  goes_still n c Rest RestNow further how step (Some (Commit given)) is h = subst (λ o. GoesOn Reach.to_the_end now n o RestNow further how) (sym (end_some p setting newer past c (Commit given) is)) (step given h)
  goes_still n c Rest RestNow further how step (Some (Abort x)) is h = subst (λ o. GoesOn Reach.to_the_end now n o RestNow further how) (sym (end_some p setting newer past c (Abort x) is)) h

  pub again_still : (c : Name) → Closed old c → is_tried_again (end now c) ≡ is_tried_again (end old c)
  again_still c closed = elim (how_still p setting newer past c legal closed) [
    | inl is ↦ ap is_tried_again is
    | inr since ↦ by_end (end old c) (end now c) since
  ]
    where
      by_end : (a b : Option How) → CommittedSince a b → is_tried_again b ≡ is_tried_again a
      by_end a None h = absurd h
      by_end a (Some (Abort c)) h = absurd h
      by_end a (Some (Commit given)) h = sym (ap is_tried_again h)

  -- so is what a transaction does
  pub deed_again_still : (d : Deed) → OfChild (Closed old) d → is_tried_again (deed_end now d) ≡ is_tried_again (deed_end old d)
  deed_again_still (Deed.child c) closed = again_still c closed
  deed_again_still (Deed.mark m) closed = refl

  tries_still : (IsTry IsTryNow : Deed → Type 0) (Stopped StoppedNow : Type 0) (Rest RestNow : Option Deed → List Deed → Type 0)
      → ((c : Deed) → IsTry c → IsTryNow c × OfChild (Closed old) c) → (Stopped → StoppedNow) → ((last : Option Deed) (cs : List Deed) → Rest last cs → RestNow last cs)
      → (last : Option Deed) (left : ℕ) (cs : List Deed) → Tries (deed_end old) IsTry Stopped Rest last left cs → Tries (deed_end now) IsTryNow StoppedNow RestNow last left cs
  tries_still IsTry IsTryNow Stopped StoppedNow Rest RestNow try stop rest last zero cs h = rest last cs h
  tries_still IsTry IsTryNow Stopped StoppedNow Rest RestNow try stop rest last (suc left) [] h = stop h
  tries_still IsTry IsTryNow Stopped StoppedNow Rest RestNow try stop rest last (suc left) (c ∷ cs) h =
      let one = try c h.0 in (
        one.0,
        subst (λ b. MatchBool b (Tries (deed_end now) IsTryNow StoppedNow RestNow (Some c) left cs) (RestNow (Some c) cs)) (sym (deed_again_still c one.1))
            (by_test (is_tried_again (deed_end old c)) h.1 (tries_still IsTry IsTryNow Stopped StoppedNow Rest RestNow try stop rest (Some c) left cs)),
      )
    where
      by_test : (b : Bool) → MatchBool b (Tries (deed_end old) IsTry Stopped Rest (Some c) left cs) (Rest (Some c) cs) → (Tries (deed_end old) IsTry Stopped Rest (Some c) left cs → Tries (deed_end now) IsTryNow StoppedNow RestNow (Some c) left cs)
          → MatchBool b (Tries (deed_end now) IsTryNow StoppedNow RestNow (Some c) left cs) (RestNow (Some c) cs)
      by_test true h more = more h
      by_test false h more = rest (Some c) cs h

  after_still : (n child : Name) (Rest RestNow : Type 0) (further : List Deed) (how : Option How) → (Rest → RestNow) → (o : Option How) → end old child ≡ o → GoesOnAfter Reach.to_the_end old n child o Rest further how → GoesOnAfter Reach.to_the_end now n child (end now child) RestNow further how
  after_still n child Rest RestNow further how step None is h = absurd h
  after_still n child Rest RestNow further how step (Some (Commit given)) is h = subst (λ o. GoesOnAfter Reach.to_the_end now n child o RestNow further how) (sym (end_some p setting newer past child (Commit given) is)) (step h)
  after_still n child Rest RestNow further how step (Some (Abort x)) is h = subst (λ o. GoesOnAfter Reach.to_the_end now n child o RestNow further how) (sym (end_some p setting newer past child (Abort x) is)) h

  behind_still : (n : Name) (last : Option Deed) (must : Bool) (Rest RestNow : Type 0) (further : List Deed) (how : Option How) → (Rest → RestNow) → AfterTries Reach.to_the_end old n last must Rest further how → AfterTries Reach.to_the_end now n last must RestNow further how
  behind_still n None must Rest RestNow further how step h = step h
  behind_still n (Some d) false Rest RestNow further how step h = step h
  behind_still n (Some (Deed.child child)) true Rest RestNow further how step h = after_still n child Rest RestNow further how step (end old child) refl h
  behind_still n (Some (Deed.mark m)) true Rest RestNow further how step h = absurd h

  -- a child that follows its plan is closed, so its deeds stand, and its end but for a top's commit
  pub child_still : (c : Name) (inner : Plan) → ((cs : List Deed) (how : Option How) → FollowsPlan s old c inner cs how → FollowsPlan s now c inner cs how)
      → FollowsPlan s old c inner (deeds old c) (end old c) → FollowsPlan s now c inner (deeds now c) (end now c) × Closed old c
  child_still c inner step h =
      let closed = done_closed old c (followed_done s old c inner (deeds old c) (end old c) h) in
      let with_end : FollowsPlan s now c inner (deeds old c) (end now c) = elim (how_still p setting newer past c legal closed) [
        | inl is ↦ subst (λ o. FollowsPlan s now c inner (deeds old c) o) (sym is) (step (deeds old c) (end old c) h)
        | inr since ↦ by_end (end old c) (end now c) since (step (deeds old c) (end old c) h)
      ] in (
        subst (λ cs. FollowsPlan s now c inner cs (end now c)) (sym (deeds_still p setting newer past c legal closed)) with_end,
        closed,
      )
    where
      by_end : (a b : Option How) → CommittedSince a b → FollowsPlan s now c inner (deeds old c) a → FollowsPlan s now c inner (deeds old c) b
      by_end a None h f = absurd h
      by_end a (Some (Abort x)) h f = absurd h
      by_end a (Some (Commit given)) h f =
          let was : FollowsPlan s now c inner (deeds old c) None = subst (λ o. FollowsPlan s now c inner (deeds old c) o) h f in
          plan_committed Reach.to_the_end s now c inner (deeds old c) given (followed_ready s now c inner (deeds old c) was) was

  -- who stands beside a name stands so for ever
  beside_still : (a b : Name) → is_beside old a b ≡ true → is_beside now a b ≡ true
  beside_still a b h = subst (λ h. is_beside h a b ≡ true) (sym (kept_append p newer past)) (beside_later (filter p newer) old a b h)

  try_still : (n : Name) (number : ℕ) (inner : Plan) → ((c : Name) → FollowsPlan s old c inner (deeds old c) (end old c) → FollowsPlan s now c inner (deeds now c) (end now c) × Closed old c)
      → (d : Deed) → OfChild (IsTryBeside Reach.to_the_end s old n number inner) d → OfChild (IsTryBeside Reach.to_the_end s now n number inner) d × OfChild (Closed old) d
  try_still n number inner step (Deed.child c) h = let one = step c h.2 in ((beside_still n c h.0, kind_still p setting newer past c _ h.1, one.0), one.1)
  try_still n number inner step (Deed.mark m) h = absurd h

  -- a branch that was turned back stays so
  turned_still : (c : Name) → WasTurnedBack Reach.to_the_end old c → WasTurnedBack Reach.to_the_end now c
  turned_still c h =
      let ended = turned_ended old c h in
      let how = some_is (end old c) ended in
      let same : end old c ≡ end now c = how.1 ∙ sym (end_some p setting newer past c how.0 how.1) in
      (deeds_still p setting newer past c legal (inl ended) ∙ h.0, subst (λ o. WasOrphan o ⊎ HasNotEnded Reach.to_the_end now c o) same h.1)

  row_try_still : (all_begun : Bool) (number : ℕ) (inner : Plan) → ((c : Name) → FollowsPlan s old c inner (deeds old c) (end old c) → FollowsPlan s now c inner (deeds now c) (end now c) × Closed old c)
      → (d : Deed) → OfChild (IsRowTry Reach.to_the_end s old all_begun number inner) d → OfChild (IsRowTry Reach.to_the_end s now all_begun number inner) d
  row_try_still true number inner step (Deed.child c) h = (kind_still p setting newer past c _ h.0, (step c h.1).0)
  row_try_still false number inner step (Deed.child c) h = (kind_still p setting newer past c _ h.0, turned_still c h.1)
  row_try_still all_begun number inner step (Deed.mark m) h = absurd h

  -- WHERE BRANCHES RUN AT ONCE

  -- a try that stands so, stands as the same try
  same_known : (branches : Plan) (d : Deed) → is_try_in old branches d ≡ true → (number : ℕ) → is_try old number d ≡ is_try now number d
  same_known branches (Deed.mark m) h number = refl
  same_known branches (Deed.child c) h number = by_kind (kind_of old c) refl
    where
      by_kind : (o : Option Kind) → kind_of old c ≡ o → is_try old number (Deed.child c) ≡ is_try now number (Deed.child c)
      by_kind None is = absurd (true≢false (sym h ∙ unknown_in old c branches is))
      by_kind (Some k) is = ap (λ o. option_map_or (is_of_body number) o false) (is ∙ sym (kind_still p setting newer past c k is))

  -- it was started
  try_started : (number : ℕ) (c : Name) → is_try old number (Deed.child c) ≡ true → is_some (start old c) ≡ true
  try_started number c h = by_start (start old c) h
    where
      by_start : (o : Option Begun) → option_map_or (is_of_body number) (option_map (λ (b : Begun). b.kind) o) false ≡ true → is_some o ≡ true
      by_start None g = g
      by_start (Some b) g = refl

  same_seat : (branches : Plan) (d : Deed) → is_try_in old branches d ≡ true → IsSameSeat old now d
  same_seat branches (Deed.mark m) h = tt
  same_seat branches (Deed.child c) h = by_kind (kind_of old c) refl
    where
      by_kind : (o : Option Kind) → kind_of old c ≡ o → IsSameSeat old now (Deed.child c)
      by_kind None is = absurd (true≢false (sym h ∙ unknown_in old c branches is))
      by_kind (Some k) is = subst (λ h. IsSameSeat old h (Deed.child c)) (sym (kept_append p newer past)) (seats_later (filter p newer) old c k is)

  -- each try in a row is done
  row_closed : (all_begun : Bool) (branches : Plan) (ds : List Deed) → RunsRow Reach.to_the_end s old all_begun branches ds → AllByRecursion (λ d. is_try_in old branches d ≡ true → OfChild (Closed old) d) ds
  row_closed all_begun (Plan.child_then number tries must inner others) ds h =
      all_both _ _ _ (λ d first further. by_test d (is_try old number d) first further) ds (all_passing (is_try old number) (OfChild (IsRowTry Reach.to_the_end s old all_begun number inner)) ds h.0) (row_closed all_begun others ds h.1)
    where
      closed : (d : Deed) → OfChild (IsRowTry Reach.to_the_end s old all_begun number inner) d → OfChild (Closed old) d
      closed (Deed.child c) t = row_try_done s old all_begun number inner c t
      closed (Deed.mark m) t = absurd t

      by_test : (d : Deed) (b : Bool) → (b ≡ true → OfChild (IsRowTry Reach.to_the_end s old all_begun number inner) d) → (is_try_in old others d ≡ true → OfChild (Closed old) d) → (b || is_try_in old others d) ≡ true → OfChild (Closed old) d
      by_test d true first further is = closed d (first refl)
      by_test d false first further is = further is
  row_closed all_begun Plan.done ds h = all_each _ (λ d is. absurd (true≢false (sym is))) ds
  row_closed all_begun (Plan.manage_by k next) ds h = all_each _ (λ d is. absurd (true≢false (sym is))) ds
  row_closed all_begun (Plan.par_then branches rest) ds h = all_each _ (λ d is. absurd (true≢false (sym is))) ds
  row_closed all_begun (Plan.abort_then levels rest) ds h = all_each _ (λ d is. absurd (true≢false (sym is))) ds
  row_closed all_begun (Plan.crash_then copy rest) ds h = all_each _ (λ d is. absurd (true≢false (sym is))) ds
  row_closed all_begun (Plan.kill_then session rest) ds h = all_each _ (λ d is. absurd (true≢false (sym is))) ds

  tries_closed : (all_begun : Bool) (branches : Plan) (ds : List Deed) → are_tries_at_once old branches ds ≡ true → RunsRow Reach.to_the_end s old all_begun branches ds → AllByRecursion (OfChild (Closed old)) ds
  tries_closed all_begun branches ds h runs = all_both _ _ _ (λ d is closed. closed is) ds (all_passed (is_try_in old branches) ds (at_once old branches ds h).each) (row_closed all_begun branches ds runs)

  pub same_tries : (all_begun : Bool) (branches : Plan) (ds : List Deed) → are_tries_at_once old branches ds ≡ true → RunsRow Reach.to_the_end s old all_begun branches ds → AllByRecursion (IsSameTry old now) ds
  same_tries all_begun branches ds h runs =
      all_both _ _ _ (λ d is closed. record { tried = same_known branches d is; again = sym (deed_again_still d closed) }) ds (all_passed (is_try_in old branches) ds (at_once old branches ds h).each) (tries_closed all_begun branches ds h runs)

  pub at_once_still : (all_begun : Bool) (branches : Plan) (here further : List Deed) → AreAtOnce old branches here further → RunsRow Reach.to_the_end s old all_begun branches here → AllByRecursion (IsSameTry old now) here → AreAtOnce now branches here further
  at_once_still all_begun branches here further h runs tries =
      let seats = all_map _ _ (same_seat branches) here (all_passed (is_try_in old branches) here (at_once old branches here h.0).each) in (
        sym (at_once_alike old now branches here tries) ∙ h.0,
        sym (own_seat_alike old now branches here tries seats) ∙ h.1,
        begin_still branches h.2,
        is_behind_still p setting newer past here further (tries_closed all_begun branches here h.0 runs) h.3,
      )
    where
      first_still : (number : ℕ) (ts : List Deed) → AllByRecursion (λ t. is_try old number t ≡ true) ts → next_starts deed_idle old here ts ≡ true → next_starts deed_idle now here ts ≡ true
      first_still number [] all g = refl
      first_still number (Deed.mark m ∷ ts) all g = refl
      first_still number (Deed.child c ∷ ts) all g = started_once deed_idle p setting newer past here c legal (try_started number c all.0) g

      begin_still : (row : Plan) → begin_first old row here ≡ true → begin_first now row here ≡ true
      begin_still (Plan.child_then number tried must inner others) g =
          let parts = and_parts (next_starts deed_idle old here (tries_among old number here)) (begin_first old others here) g in
          and_from _ _ (subst (λ l. next_starts deed_idle now here l ≡ true) (among_alike old now number here tries) (first_still number (tries_among old number here) (among_pass (is_try old number) here) parts.0)) (begin_still others parts.1)
      begin_still _ g = refl

  pub first_failed_still : (n : Name) (branches : Plan) (here further : List Deed) (how : Option How) (Rest : Type 0) → AllByRecursion (IsSameTry old now) here
      → AfterTries Reach.to_the_end old n (first_failed old branches here) true Rest further how → first_failed old branches here ≡ first_failed now branches here
  first_failed_still n branches here further how Rest same h = failed_stays old now ends branches here same (ended (first_failed old branches here) h)
    where
      ends : (d : Deed) (x : How) → deed_end old d ≡ Some x → deed_end now d ≡ Some x
      ends (Deed.child c) x is = end_some p setting newer past c x is
      ends (Deed.mark m) x is = is

      by_end : (c : Name) (o : Option How) → GoesOnAfter Reach.to_the_end old n c o Rest further how → o ≡ None → ⊥
      by_end c None g is = g
      by_end c (Some x) g is = absurd cc

      ended : (o : Option Deed) → AfterTries Reach.to_the_end old n o true Rest further how → IfAny (λ d. deed_end old d ≡ None → ⊥) o
      ended None g = tt
      ended (Some (Deed.child c)) g = by_end c (end old c) g
      ended (Some (Deed.mark m)) g = absurd g

  row_behind_still : (n : Name) (branches : Plan) (here further : List Deed) (how : Option How) (Rest RestNow : Type 0) → AllByRecursion (IsSameTry old now) here → (tried : Bool) → (Rest → RestNow)
      → AfterRow Reach.to_the_end old n tried (first_failed old branches here) Rest further how → AfterRow Reach.to_the_end now n tried (first_failed now branches here) RestNow further how
  row_behind_still n branches here further how Rest RestNow same true step x =
      subst (λ o. AfterTries Reach.to_the_end now n o true RestNow further how) (first_failed_still n branches here further how Rest same x) (behind_still n (first_failed old branches here) true Rest RestNow further how step x)
  row_behind_still n branches here further how Rest RestNow same false step x = x

  mutual
    pub plan_still : (n : Name) (plan : Plan) (cs : List Deed) (how : Option How) → FollowsPlan s old n plan cs how → FollowsPlan s now n plan cs how
    plan_still n Plan.done [] how (inl is) = inl (commits_still n how is)
    plan_still n Plan.done [] how (inr x) = inr x
    plan_still n Plan.done (c ∷ cs) how h = absurd h
    plan_still n (Plan.manage_by k next) [] how h = h
    plan_still n (Plan.manage_by k next) (Deed.child c ∷ cs) how h = (
      kind_still p setting newer past c k h.0,
      beside_still n c h.1,
      goes_still n c (λ given. FollowsPlan s old n (next given) cs how) (λ given. FollowsPlan s now n (next given) cs how) cs how (λ given. plan_still n (next given) cs how) (end old c) refl h.2,
    )
    plan_still n (Plan.manage_by k next) (Deed.mark m ∷ cs) how h = absurd h
    plan_still n (Plan.child_then number tries must inner rest) cs how h =
        tries_still _ _ (StopsEarly n how) (StopsEarly n how) (λ last further. AfterTries Reach.to_the_end old n last must (FollowsPlan s old n rest further how) further how)
        (λ last further. AfterTries Reach.to_the_end now n last must (FollowsPlan s now n rest further how) further how)
        (try_still n number inner (λ c. child_still c inner (plan_still c inner))) (λ x. x)
        (λ last further f. behind_still n last must (FollowsPlan s old n rest further how) (FollowsPlan s now n rest further how) further how (plan_still n rest further how) f) None tries cs h
    plan_still n (Plan.par_then branches rest) cs how h =
        let tries : AllByRecursion (IsSameTry old now) h.0 = same_tries (each_begun old branches h.0) branches h.0 h.3.0 h.4 in (
          h.0,
          h.1,
          h.2,
          at_once_still (each_begun old branches h.0) branches h.0 h.1 h.3 h.4 tries,
          subst (λ b. RunsRow Reach.to_the_end s now b branches h.0) (begun_alike old now branches h.0 tries) (row_still (each_begun old branches h.0) branches h.0 tries h.4),
          subst (λ b. AfterRow Reach.to_the_end now n b (first_failed now branches h.0) (FollowsPlan s now n rest h.1 how) h.1 how) (each_alike old now false branches h.0 tries)
              (row_behind_still n branches h.0 h.1 how (FollowsPlan s old n rest h.1 how) (FollowsPlan s now n rest h.1 how) tries (each_tried old false branches h.0) (plan_still n rest h.1 how) h.5),
        )
    plan_still n (Plan.abort_then levels rest) [] how h = h
    plan_still n (Plan.abort_then levels rest) (c ∷ cs) how h = absurd h
    plan_still n (Plan.crash_then copy rest) cs how h = plan_still n rest cs how h
    plan_still n (Plan.kill_then session rest) [] how h = h
    plan_still n (Plan.kill_then session rest) (Deed.child c ∷ cs) how h = absurd h
    plan_still n (Plan.kill_then session rest) (Deed.mark m ∷ cs) how h = (h.0, by_test (session == s) h.1 (plan_still n rest cs how))
      where
        by_test : (b : Bool) → MatchBool b ((cs ≡ []) × StopsBefore Reach.to_the_end old n how) (FollowsPlan s old n rest cs how) → (FollowsPlan s old n rest cs how → FollowsPlan s now n rest cs how)
            → MatchBool b ((cs ≡ []) × StopsBefore Reach.to_the_end now n how) (FollowsPlan s now n rest cs how)
        by_test true x more = x
        by_test false x more = more x

    pub row_still : (all_begun : Bool) (branches : Plan) (ds : List Deed) → AllByRecursion (IsSameTry old now) ds → RunsRow Reach.to_the_end s old all_begun branches ds → RunsRow Reach.to_the_end s now all_begun branches ds
    row_still all_begun (Plan.child_then number tries must inner others) ds same h = (
      subst (AllByRecursion (OfChild (IsRowTry Reach.to_the_end s now all_begun number inner))) (among_alike old now number ds same)
          (all_map _ _ (row_try_still all_begun number inner (λ c. child_still c inner (plan_still c inner))) (tries_among old number ds) h.0),
      row_still all_begun others ds same h.1,
    )
    row_still all_begun _ ds same h = h

  -- a transaction that follows its plan follows it for ever
  pub follows_still : (n : Name) (plan : Plan) → FollowsPlan s old n plan (deeds old n) (end old n) → FollowsPlan s now n plan (deeds now n) (end now n) × Closed old n
  follows_still n plan h = child_still n plan (plan_still n plan) h
