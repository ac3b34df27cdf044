-- What a mark leaves, and what a transaction does that looks whether it is killed.
use Rattle.std.proofs.Common.{◌≡◌, ◌⊎◌, inl, inr, ℕ, Bool, true, false, List, [], ◌∷◌, ◌++◌, length, refl, sym, ap, ◌∙◌, subst, append-nil, append_assoc, arith, length-append}
use mathlib.Core.Bool.{true≢false}
use Rattle.std.specs.Prelude.{◌==◌, Option, None, Some, MatchBool, is_some, is_none, nat_le, find, ◌&&◌, ◌||◌}
use Rattle.std.specs.List.{list_all}
use Rattle.qc_event.specs.declared.event.Cause.TheVariants as cause
use Rattle.qc_event.specs.declared.event.Entry.{Entry}
use Rattle.qc_event.specs.declared.event.Event.TheVariants as event
use Rattle.qc_event.specs.declared.event.How.{How}
use Rattle.qc_event.specs.declared.event.How.TheVariants.{Abort}
use Rattle.qc_event.specs.History.{Past, Name, end, is_ready, children}
use Rattle.qc_event.specs.Standing.{Started}
use Rattle.qc_event.specs.Users.{is_marked, top_number}
use Rattle.qc_event.proofs.Absent.{other_length}
use Rattle.qc_event.proofs.Later.{started_still}
use Rattle.qc_event.proofs.OneEntry.{some_not_none, some_if_not_none}
use Rattle.qc_script.specs.Calls.{by_client, IsOfSession}
use Rattle.qc_script.specs.Client.{Client, mine, is_own, scope, Made, IsLater, HasJoined}
use Rattle.qc_script.specs.Plan.{Plan}
use Rattle.qc_interp.specs.Adding.{stays_in}
use Rattle.qc_interp.specs.Asking.{Asks}
use Rattle.qc_interp.specs.Deeds.{Deed, deeds}
use Rattle.qc_interp.specs.Follows.{IsUnended, StopsBefore, WasAsked, WasKilled, RunsPlan}
use Rattle.qc_interp.specs.Reach.{Reach}
use Rattle.qc_interp.specs.Running.{Runs, Leaves, EndsAt, Ended, CutOff, Quit, WentOn, Stepped, HasNotMarked, StopsThere, Acted, HasActed, HasLooked}
use Rattle.qc_interp.specs.Turns.{is_done}
use Rattle.qc_interp.specs.declared.stops.Finish.TheVariants as finish
use Rattle.qc_interp.proofs.Scopes.Scope.{at_scope}
use Rattle.qc_interp.proofs.Scopes.Adding.{one_stays, over_later}
use Rattle.qc_interp.proofs.Stepping.Asked.{NoOne, asked_made, asked_none, asked_trans, asked_wider}
use Rattle.qc_interp.proofs.Following.Deeds.{mark_silent, deeds_quiet, mark_deed, late_deed, deeds_still}
use Rattle.qc_interp.proofs.Stepping.Ending.{unended_some, leaves_trans, leaves_cut, still, leaves_still, runs_still}
use Rattle.qc_interp.proofs.Scopes.Growth.{made_is, made_later, later_trans, ours_before}
use Rattle.qc_interp.proofs.Branching.Joined.{joined_itself, joined_before, joined_runs, joined_made, joined_none, joined_unmarked}
use Rattle.qc_interp.proofs.Stepping.Managers.{children_quiet, one_end, one_ready}
use Rattle.qc_interp.proofs.Stepping.StepsLeave.{end_later, none_open, some_later}
use Rattle.qc_interp.proofs.Following.Followed.{asked_unended}
use Rattle.qc_interp.proofs.Stepping.Stopping.{running_unended, stopped_runs}
use Rattle.qc_interp.proofs.Scopes.Seats.{later_seat, own_under}
use Rattle.qc_interp.proofs.Following.Turning.{InTurn, Alone, act_turns}

-- A list that goes on by nothing else is the same.
none_further : (xs ys : List Deed) → xs ≡ xs ++ ys → ys ≡ []
none_further xs [] is = refl
none_further xs (y ∷ ys) is = let z : ⊥ = omega (arith, ap length is, length-append xs (y ∷ ys)) in absurd z

le_itself : (n : ℕ) → nat_le n n ≡ true
le_itself n = Rattle.std.proofs.lemmas.Bool.le-leb n n (omega arith)

module _ (c : Client) (of : Name) where
  -- STEPS

  -- where a step was done after which a transaction goes on, it may stop too
  pub acted_on : (before now : Past) (front : Plan → Plan) → WentOn c of before now front → Acted c of before now front
  acted_on before now front on = record {
    leaves = on.leaves;
    runs = on.runs;
    follows = λ unmarked. on.follows;
    stops = λ reach d x j later stops rest. on.follows reach d x j later rest (λ ours.
        let s = stops ours in
        ([], s.0 ∙ sym (append-nil _), stopped_runs reach d.session (mine d x) of _ s.1 rest, asked_none d now x _ s.2));
  }

  pub acted_by : (before now : Past) (front : Plan → Plan) (r : Option Bool) → Stepped c of before now front r → HasActed c of before now front r
  acted_by before now front None on = acted_on before now front on
  acted_by before now front (Some again) ended = ended

  -- MARKS

  module _ (session : ℕ) (before now : Past) (runs : Runs c of before) (m : Made c (by_client c (event.Mark of session) ∷ []) before now) where
    abbrev marks : Entry
    marks = by_client c (event.Mark of session)

    now_is : mine c now ≡ marks ∷ mine c before
    now_is = made_is c _ before now m

    abbrev later_is : IsLater c before now
    later_is = made_later c _ before now m

    same_end : (p : Name) → end (mine c now) p ≡ end (mine c before) p
    same_end p = one_end c _ before now m p refl

    same_ready : (p : Name) → is_ready (mine c now) p ≡ is_ready (mine c before) p
    same_ready p = one_ready c _ before now m p refl

    leaves_marked : Leaves c of before now
    leaves_marked = record {
      turns = λ ours turns alone. subst (λ h. InTurn h × Alone h of) (sym now_is) (act_turns marks (mine c before) of of refl refl (own_under c before of runs.seat) turns alone alone);
      later = later_is;
      inside = ap (list_all (stays_in (scope c of))) m.made ∙ one_stays (scope c of) of marks refl refl (at_scope c of);
      over = λ was r. over_later c before now later_is of (was (sym (same_ready of) ∙ r));
      above = λ p r is far. record {
        deeds = ap (λ h. deeds h p) now_is ∙ deeds_quiet p (marks ∷ []) (mine c before) (mark_silent p of session (other_length of p (λ l. omega (arith, l, far, ap length is ∙ length-append p r))), tt);
        ready = same_ready p;
        unended = subst (λ o. IsUnended p o) (sym (same_end p));
      };
    }

    runs_marked : Runs c of now
    runs_marked = record {
      legal = m.legal;
      user = subst (λ h. Started h of (λ b. IsOfSession c.session b.kind)) (sym m.grown) (started_still m.newer before of _ runs.user);
      seat = later_seat c before now later_is of c.number runs.seat;
      nonroot = runs.nonroot;
      below = runs.below;
      above = λ p r is far. (subst (λ o. IsUnended p o) (sym (same_end p)) (runs.above p r is far).0, same_ready p ∙ (runs.above p r is far).1);
      closed = λ ours.
          ap (find (λ x. is_none (end (mine c now) x))) (ap (λ h. children h of) now_is ∙ children_quiet of (marks ∷ []) (mine c before) (refl, tt))
          ∙ none_open _ _ (children (mine c before) of) (λ x h. some_not_none _ (some_later c of before now later_is x (some_if_not_none _ h))) (runs.closed (ours_before c of before now later_is ours));
    }

    -- the mark is not of the client's session, where that is not marked
    other_session : HasNotMarked c of now → (session == c.session) ≡ false
    other_session unmarked = by_test (session == c.session) refl
      where
        by_test : (b : Bool) → (session == c.session) ≡ b → b ≡ false
        by_test false is = refl
        by_test true is =
            absurd (true≢false (
            sym (
            ap (λ h. is_marked h c.session (top_number of)) now_is
            ∙ ap (λ b. (b && nat_le (top_number of) (top_number of)) || is_marked (mine c before) c.session (top_number of)) is
            ∙ ap (λ b. b || is_marked (mine c before) c.session (top_number of)) (le_itself (top_number of))
            ) ∙ unmarked
            ))

    -- THE TRANSACTION HAS NOT ENDED

    module _ (going : is_done (mine c before) of ≡ false) where
      marked : deeds (mine c now) of ≡ deeds (mine c before) of ++ Deed.mark session ∷ []
      marked = ap (λ h. deeds h of) now_is ∙ mark_deed marks (mine c before) of session refl going

      more : (x : Past) (further : List Deed) → deeds (mine c x) of ≡ deeds (mine c now) of ++ further → deeds (mine c x) of ≡ deeds (mine c before) of ++ Deed.mark session ∷ further
      more x further is = is ∙ ap (λ l. l ++ further) marked ∙ append_assoc (deeds (mine c before) of) (Deed.mark session ∷ []) further

      going_follows : (session == c.session) ≡ false → (reach : Reach) (x : Past) (rest : Plan) → EndsAt reach c of now x rest → EndsAt reach c of before x (Plan.kill_then session rest)
      going_follows other reach x rest ends ours =
          let e = ends ours in (
            Deed.mark session ∷ e.0,
            more x e.0 e.1,
            (refl, by_test (session == c.session) e.0 other e.2),
            asked_trans c before now x _ (asked_made c _ before now _ m (tt, tt)) e.3,
          )
        where
          by_test : (b : Bool) (further : List Deed) → b ≡ false → RunsPlan reach c.session (mine c x) of rest further (end (mine c x) of)
              → MatchBool b ((further ≡ []) × StopsBefore reach (mine c x) of (end (mine c x) of)) (RunsPlan reach c.session (mine c x) of rest further (end (mine c x) of))
          by_test true further is h = absurd (true≢false is)
          by_test false further is h = h

      going_stops : (reach : Reach) (x : Past) → StopsThere reach c of now x → (rest : Plan) → EndsAt reach c of before x (Plan.kill_then session rest)
      going_stops reach x stops rest ours =
          let s = stops ours in (
            Deed.mark session ∷ [],
            more x [] (s.0 ∙ sym (append-nil _)),
            (refl, by_test (session == c.session) [] refl s.1),
            asked_none c before x _ (asked_trans c before now x NoOne (asked_made c _ before now NoOne m (tt, tt)) s.2),
          )
        where
          by_test : (b : Bool) (further : List Deed) → further ≡ [] → StopsBefore reach (mine c x) of (end (mine c x) of)
              → MatchBool b ((further ≡ []) × StopsBefore reach (mine c x) of (end (mine c x) of)) (RunsPlan reach c.session (mine c x) of rest further (end (mine c x) of))
          by_test true further none h = (none, h)
          by_test false further none h = subst (λ l. RunsPlan reach c.session (mine c x) of rest l (end (mine c x) of)) (sym none) (stopped_runs reach c.session (mine c x) of _ h rest)

    -- IT WAS ABORTED AS ANOTHER ASKED, AND ITS MARK COUNTS FOR NOTHING

    module _ (done : is_done (mine c before) of ≡ true) where
      was_asked : WasAsked of (end (mine c before) of)
      was_asked =
          let at = runs.above of [] (sym (append-nil of)) runs.nonroot in
          unended_some of _ at.0 (by_ready (is_some (end (mine c before) of)) (is_ready (mine c before) of) at.1 done)
        where
          by_ready : (a b : Bool) → b ≡ false → (a || b) ≡ true → a ≡ true
          by_ready true b unready h = refl
          by_ready false b unready h = sym unready ∙ h

      asked_later : (x : Past) → IsLater c before x → WasAsked of (end (mine c x) of)
      asked_later x later = by_end (end (mine c before) of) refl was_asked
        where
          by_end : (o : Option How) → end (mine c before) of ≡ o → WasAsked of o → WasAsked of (end (mine c x) of)
          by_end None is h = absurd h
          by_end (Some how) is h = subst (WasAsked of) (sym (end_later c of before x later of how is)) h

      nothing : deeds (mine c now) of ≡ deeds (mine c before) of
      nothing = ap (λ h. deeds h of) now_is ∙ late_deed marks (mine c before) of session refl done

      for_ever : (x : Past) → IsLater c before x → deeds (mine c x) of ≡ deeds (mine c before) of
      for_ever x later =
          ap (λ h. deeds (mine c h) of) later.grown
          ∙ deeds_still (λ (e : Entry). is_own c e.seat) c.setting later.newer before of (subst (Rattle.qc_event.specs.Legal.Legal c.setting) later.grown later.legal) (inl (asked_ended (end (mine c before) of) was_asked))
        where
          asked_ended : (o : Option How) → WasAsked of o → is_some o ≡ true
          asked_ended None h = absurd h
          asked_ended (Some how) h = refl

      done_follows : (reach : Reach) (x : Past) → IsLater c now x → (rest : Plan) → EndsAt reach c of now x rest → EndsAt reach c of before x (Plan.kill_then session rest)
      done_follows reach x later rest ends ours =
          let e = ends ours in
          let since = later_trans c before now x later_is later in
          let none = none_further (deeds (mine c now) of) e.0 (nothing ∙ sym (for_ever x since) ∙ e.1) in (
            [],
            for_ever x since ∙ sym (append-nil _),
            inl (asked_unended reach (mine c x) of _ (asked_later x since)),
            asked_trans c before now x _ (asked_made c _ before now _ m (tt, tt)) (asked_wider _ _ (λ by t a. (asked_later x since, subst (λ l. Asks (mine c x) of rest l by t) none a)) c now x e.3),
          )

      done_stops : (reach : Reach) (x : Past) → StopsThere reach c of now x → (rest : Plan) → EndsAt reach c of before x (Plan.kill_then session rest)
      done_stops reach x stops rest ours =
          let s = stops ours in
          ([], s.0 ∙ nothing ∙ sym (append-nil _), s.1, asked_none c before x _ (asked_trans c before now x NoOne (asked_made c _ before now NoOne m (tt, tt)) s.2))

    mark_follows : HasNotMarked c of now → (reach : Reach) (x : Past) → IsLater c now x → (rest : Plan) → EndsAt reach c of now x rest → EndsAt reach c of before x (Plan.kill_then session rest)
    mark_follows unmarked reach x later rest = by_done (is_done (mine c before) of) refl
      where
        by_done : (b : Bool) → is_done (mine c before) of ≡ b → EndsAt reach c of now x rest → EndsAt reach c of before x (Plan.kill_then session rest)
        by_done false going = going_follows going (other_session unmarked) reach x rest
        by_done true done = done_follows done reach x later rest

    mark_stops : (reach : Reach) (x : Past) → StopsThere reach c of now x → (rest : Plan) → EndsAt reach c of before x (Plan.kill_then session rest)
    mark_stops reach x stops rest = by_done (is_done (mine c before) of) refl
      where
        by_done : (b : Bool) → is_done (mine c before) of ≡ b → EndsAt reach c of before x (Plan.kill_then session rest)
        by_done false going = going_stops going reach x stops rest
        by_done true done = done_stops done reach x stops rest

  -- LOOKS

  -- nothing was made before it was aborted
  pub quit_later : (how : How) (before mid now : Past) (again : Bool) → Made c [] before mid → Quit c of how mid now again → Quit c of how before now again
  quit_later how before mid now again m quit = record {
    leaves = leaves_trans c of before mid now (leaves_still c of before mid m) quit.leaves;
    tried = quit.tried;
    deeds = quit.deeds ∙ ap (λ h. deeds h of) (still c of before mid m);
    asked = asked_trans c before mid now NoOne (asked_made c [] before mid NoOne m tt) quit.asked;
    ended = quit.ended;
  }

  killed_before : (past : Past) (how : Option How) → (how ≡ Some (Abort cause.Killed)) ⊎ WasAsked of how → StopsBefore Reach.to_the_end past of how
  killed_before past how (inl is) = inr (subst WasKilled (sym is) tt)
  killed_before past how (inr s) = inl s

  -- it was killed before it did anything of a plan
  pub killed_first : (before now : Past) (again : Bool) (plan : Plan) → Quit c of (Abort cause.Killed) before now again → Ended c of before now plan (finish.Stopped again)
  killed_first before now again plan quit = record {
    leaves = quit.leaves;
    tried = quit.tried;
    ends = λ ours. ([], quit.deeds ∙ sym (append-nil _), stopped_runs Reach.to_the_end c.session (mine c now) of _ (killed_before (mine c now) _ (quit.ended ours)) plan, asked_none c before now _ quit.asked);
  }

  module _ (before mid : Past) (front : Plan → Plan) (acted : Acted c of before mid front) (now : Past) where
    goes_on : Made c [] mid now → HasNotMarked c of now → WentOn c of before now front
    goes_on m unmarked = record {
      leaves = leaves_trans c of before mid now acted.leaves (leaves_still c of mid now m);
      runs = runs_still c of mid now m acted.runs;
      follows = λ reach d x j later rest ends.
          let same = joined_none c d now j mid m in
          acted.follows (sym (ap (λ h. is_marked h c.session (top_number of)) (still c of mid now m)) ∙ unmarked) reach d x (joined_before c d mid now (made_later c [] mid now m) j) (later_trans d mid now x (made_later d [] mid now same) later) rest (λ ours.
          let e = ends ours in
          (e.0, e.1 ∙ ap (λ h. deeds h of ++ e.0) (still d of mid now same), e.2, asked_trans d mid now x _ (asked_made d [] mid now _ same tt) e.3));
    }

    was_killed : (again : Bool) → Quit c of (Abort cause.Killed) mid now again → (rest : Plan) → Ended c of before now (front rest) (finish.Stopped again)
    was_killed again quit rest = record {
      leaves = leaves_trans c of before mid now acted.leaves quit.leaves;
      tried = quit.tried;
      ends = acted.stops Reach.to_the_end c now (joined_itself c mid) quit.leaves.later (λ ours. (quit.deeds, killed_before (mine c now) _ (quit.ended ours), quit.asked)) rest;
    }

    -- behind a step a transaction has looked, and goes on or was killed
    pub looked_behind : (r : Option Bool) → HasLooked c of mid now r → Stepped c of before now front r
    looked_behind None (m, unmarked) = goes_on m unmarked
    looked_behind (Some again) quit = was_killed again quit

    -- the run was cut off as it was to be killed
    pub acted_cut : Made c [] mid now → (rest : Plan) → CutOff c of before now (front rest)
    acted_cut m rest =
        let at = (runs_still c of mid now m acted.runs).above of [] (sym (append-nil of)) acted.runs.nonroot in
        record {
          leaves = leaves_trans c of before mid now acted.leaves (leaves_cut c of mid now (leaves_still c of mid now m));
          unended = at.0;
          begins = acted.stops Reach.cut_off c now (joined_itself c mid) (made_later c [] mid now m) (λ ours. (ap (λ h. deeds h of) (still c of mid now m), inl (running_unended (mine c now) of _ at.0 at.1), asked_made c [] mid now NoOne m tt)) rest;
        }

-- A session is marked, and whatever branches the client merges later, the step is done.
module _ (c : Client) (of : Name) (session : ℕ) (before now : Past) (runs : Runs c of before) (m : Made c (by_client c (event.Mark of session) ∷ []) before now) where
  module _ (d : Client) (j : HasJoined c now d) where
    runs_with : Runs d of before
    runs_with = joined_runs c d before (joined_before c d before now (made_later c _ before now m) j) of runs

    made_with : Made d (by_client d (event.Mark of session) ∷ []) before now
    made_with = joined_made c d now j (event.Mark of session) before m

  pub marked_on : Acted c of before now (Plan.kill_then session)
  marked_on = record {
    leaves = leaves_marked c of session before now runs m;
    runs = runs_marked c of session before now runs m;
    follows = λ unmarked reach d x j later rest. mark_follows d of session before now (runs_with d j) (made_with d j) (joined_unmarked c d now j of unmarked) reach x later rest;
    stops = λ reach d x j later stops rest. mark_stops d of session before now (runs_with d j) (made_with d j) reach x stops rest;
  }
