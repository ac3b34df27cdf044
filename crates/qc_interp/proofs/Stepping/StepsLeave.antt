-- What each step of a transaction leaves.
use Rattle.std.proofs.Common.{◌≡◌, ◌⊎◌, inl, inr, ℕ, Bool, true, false, List, [], ◌∷◌, ◌++◌, refl, sym, ap, ◌∙◌, subst, append-nil, append_assoc}
use Rattle.std.specs.Prelude.{Option, None, Some, MatchOption, is_some, is_none, find, if◌then◌else◌}
use Rattle.qc_event.specs.declared.event.Answer.{Answer}
use Rattle.qc_event.specs.declared.event.Cause.{Cause}
use Rattle.qc_event.specs.declared.event.Cause.TheVariants as cause
use Rattle.qc_event.specs.declared.event.Entry.{Entry}
use Rattle.qc_event.specs.declared.event.How.{How}
use Rattle.qc_event.specs.declared.event.How.TheVariants.{Commit, Abort}
use Rattle.qc_event.specs.declared.event.Kind.{Kind}
use Rattle.qc_event.specs.declared.event.Kind.TheVariants as kind
use Rattle.qc_event.specs.Base.{Setting}
use Rattle.qc_event.specs.History.{Past, Name, Begun, start, end, is_ready, children, kind_of}
use Rattle.qc_event.specs.Standing.{Started, IsManager, IsAbort, open_child}
use Rattle.qc_event.proofs.LastNumber.{child_last}
use Rattle.qc_event.proofs.Lawful.{no_open_child}
use Rattle.qc_event.proofs.OneEntry.{some_or_none, starting, some_not_none, some_if_not_none}
use Rattle.qc_event.proofs.Later.{started_still}
use Rattle.qc_event.proofs.Options.{some_match}
use Rattle.qc_event.specs.declared.short.Short.{Short}
use Rattle.qc_names.specs.Name as name
use Rattle.qc_script.specs.Calls.{Ran, Refuses, GaveNone, WasCut, WasNotStarted, IsOfSession}
use Rattle.qc_script.specs.Client.{Client, mine, is_own, scope, concerns, Made, IsLater, AreOurs}
use Rattle.qc_interp.specs.Deeds.{Deed, deeds}
use Rattle.qc_interp.proofs.Following.Deeds.{one_child_more}
use Rattle.qc_interp.specs.Follows.{StopsEarly, WasAsked, IsUnended, RunsPlan, FollowsPlan, GoesOn, is_handed_on}
use Rattle.qc_interp.specs.Reach.{Reach}
use Rattle.qc_interp.specs.Turns.{is_beside}
use Rattle.qc_script.specs.Plan.{Plan, KindFits}
use Rattle.qc_interp.specs.Running.{Runs, Leaves, WhyStop, StopsBy, Stopped, EndsAt, Ended, CutOff, WentOn, WentBy}
use Rattle.qc_interp.specs.declared.stops.Finish.TheVariants as finish
use Rattle.qc_script.specs.declared.tx.TxNo.{TxNo}
use Rattle.qc_script.specs.declared.tx.TxNo.TheVariants as tx_no
use Rattle.qc_interp.proofs.Scopes.Mine.{end_some, kind_still, kept_some, some_is}
use Rattle.qc_interp.proofs.Scopes.Seats.{start_under, later_seat, later_beside}
use Rattle.qc_interp.proofs.Scopes.Growth.{made_both, later_itself, ours_before, own_found}
use Rattle.qc_interp.proofs.Stepping.Managers.{Managed, managed, Interrupted, interrupted}
use Rattle.qc_interp.proofs.Stepping.Stopping.{asked_early, unended_stopped, running_stops, running_unended}
use Rattle.qc_interp.proofs.Scopes.Scope.{child_scope}
use Rattle.qc_interp.proofs.Branching.Joined.{joined_before, joined_runs, joined_ran}
use Rattle.qc_interp.proofs.Stepping.Ending.{not_ready, ended_early, leaves_itself, leaves_trans, leaves_cut, cut_still, still, leaves_still, runs_still}
use Rattle.qc_interp.specs.Asking.{DoesOn, Asks, AllAsked}
use Rattle.qc_interp.proofs.Stepping.Asked.{NoOne, asked_made, asked_none, asked_wider, asked_trans}
use Rattle.qc_interp.proofs.Scopes.Adding.{over_later}

-- ALL CHILDREN HAVE ENDED

pub none_open : (f g : Name → Bool) (xs : List Name) → ((x : Name) → f x ≡ false → g x ≡ false) → find f xs ≡ None → find g xs ≡ None
none_open f g [] step h = refl
none_open f g (x ∷ xs) step h = by_test (f x) refl h (none_open f g xs step)
  where
    by_test : (b : Bool) → f x ≡ b → (if b then Some x else find f xs) ≡ None → (find f xs ≡ None → find g xs ≡ None) → find g (x ∷ xs) ≡ None
    by_test true is h more = absurd cc
    by_test false is h more = ap (λ b. if b then Some x else find g xs) (step x is) ∙ more h

none_more : (g : Name → Bool) (xs : List Name) (m : Name) → find g xs ≡ None → g m ≡ false → find g (xs ++ m ∷ []) ≡ None
none_more g [] m h last = ap (λ b. if b then Some m else None) last
none_more g (x ∷ xs) m h last = by_test (g x) h (none_more g xs m)
  where
    by_test : (b : Bool) → (if b then Some x else find g xs) ≡ None → (find g xs ≡ None → g m ≡ false → find g (xs ++ m ∷ []) ≡ None) → (if b then Some x else find g (xs ++ m ∷ [])) ≡ None
    by_test true h more = absurd cc
    by_test false h more = more h last

pub manages : (setting : Setting) (k : Kind) → KindFits setting k → IsManager k
manages setting (kind.Read rec) h = tt
manages setting (kind.Write rec value) h = tt
manages setting (kind.Reconf rec config) h = tt
manages setting (kind.User s body) h = h
manages setting kind.Access h = h

module _ (c : Client) (of : Name) where
  pub end_later : (a b : Past) → IsLater c a b → (n : Name) (how : How) → end (mine c a) n ≡ Some how → end (mine c b) n ≡ Some how
  end_later a b p n how is = ap (λ h. end (mine c h) n) p.grown ∙ end_some (λ (e : Entry). is_own c e.seat) c.setting p.newer a n how is

  pub kind_later : (a b : Past) → IsLater c a b → (n : Name) (k : Kind) → kind_of (mine c a) n ≡ Some k → kind_of (mine c b) n ≡ Some k
  kind_later a b p n k is = ap (λ h. kind_of (mine c h) n) p.grown ∙ kind_still (λ (e : Entry). is_own c e.seat) c.setting p.newer a n k is

  pub some_later : (a b : Past) → IsLater c a b → (n : Name) → is_some (end (mine c a) n) ≡ true → is_some (end (mine c b) n) ≡ true
  some_later a b p n h = let how = some_is (end (mine c a) n) h in ap is_some (end_later a b p n how.0 how.1)

  -- one child more, which has ended, as the others have
  pub closed_more : (before now : Past) (m : Name) → IsLater c before now → deeds (mine c now) of ≡ deeds (mine c before) of ++ Deed.child m ∷ [] → open_child (mine c before) of ≡ None → is_some (end (mine c now) m) ≡ true → open_child (mine c now) of ≡ None
  closed_more before now m later more none last =
      ap (find (λ x. is_none (end (mine c now) x))) (one_child_more (mine c now) (mine c before) of m more)
      ∙ none_more _ (children (mine c before) of) m
      (none_open _ _ (children (mine c before) of) (λ x h. some_not_none _ (some_later before now later x (some_if_not_none _ h))) none)
      (some_not_none _ last)

  -- MANAGERS

  module _ (k : Kind) (how : How) (m : Name) (before now : Past) (ran : Managed c of k how m before now) where
    pub leaves_managed : Leaves c of before now
    leaves_managed = record {
      turns = λ ours turns alone. ran.turns turns alone;
      later = ran.later;
      inside = ran.inside;
      over = λ was r. over_later c before now ran.later of (was (sym (ran.same_ready of [] (sym (append-nil of))) ∙ r));
      above = λ p r is far. record {
        deeds = ran.same_deeds p r is far;
        ready = ran.same_ready p r is;
        unended = subst (λ o. IsUnended p o) (sym (ran.same_end p r is));
      };
    }

    pub runs_managed : Runs c of before → Runs c of now
    runs_managed runs = record {
      legal = ran.later.legal;
      user = subst (λ h. Started h of (λ b. IsOfSession c.session b.kind)) (sym ran.later.grown) (started_still ran.later.newer before of _ runs.user);
      seat = later_seat c before now ran.later of c.number runs.seat;
      nonroot = runs.nonroot;
      below = runs.below;
      above = λ p r is far. (subst (λ o. IsUnended p o) (sym (ran.same_end p r is)) (runs.above p r is far).0, ran.same_ready p r is ∙ (runs.above p r is far).1);
      closed = λ ours. closed_more before now m ran.later ran.deeds (runs.closed (ours_before c of before now ran.later ours)) (ap is_some ran.end);
    }

    -- it stands beside its transaction, now and later
    pub managed_beside : Runs c of before → (x : Past) → IsLater c now x → is_beside (mine c x) of m ≡ true
    managed_beside runs x later = later_beside c now x later of m (later_seat c before now ran.later of c.number runs.seat) (start_under now m c.number k ran.started)

    -- whatever follows it follows the step
    pub more_follows : (x : Past) (Rest Asked : List Deed → Type 0) → IsLater c now x
        → (further : List Deed) × (deeds (mine c x) of ≡ deeds (mine c now) of ++ further) × Rest further × Asked further
        → (further : List Deed) × (deeds (mine c x) of ≡ deeds (mine c before) of ++ Deed.child m ∷ further) × Rest further × Asked further
    more_follows x Rest Asked later h = (h.0, h.1 ∙ ap (λ l. l ++ h.0) ran.deeds ∙ append_assoc (deeds (mine c before) of) (Deed.child m ∷ []) h.0, h.2, h.3)

  user_cause : (k : Kind) (x : Cause) (m : Name) (before now : Past) → IsManager k → Managed c of k (Abort x) m before now → Rattle.qc_event.specs.Users.ChildAborted now of x
  user_cause k x m before now may ran = record {
    child = m;
    is_one = ran.is_one;
    manages = subst (λ o. MatchOption o ⊥ (λ (b : Begun). IsManager b.kind)) (sym ran.started) may;
    ended = ran.ended;
  }

  -- a manager that committed, and what follows by its answer
  manage_follows : (k : Kind) (given : Answer) (before now : Past) → Runs c of before → Ran c of k (Commit given) before now → (reach : Reach) (x : Past) → IsLater c now x → (next : Answer → Plan) → EndsAt reach c of now x (next given) → EndsAt reach c of before x (Plan.manage_by k next)
  manage_follows k given before now runs has reach x later next ends ours =
      let ran = managed c of k (Commit given) before now runs.nonroot has in
      let rest = next given in
      let h = more_follows k _ _ before now ran x (λ further. RunsPlan reach c.session (mine c x) of rest further (end (mine c x) of)) (λ further. AllAsked c now x (λ by t. Asks (mine c x) of rest further by t)) later (ends ours) in (
        Deed.child has.manager ∷ h.0,
        h.1,
        (
          kind_later now x later _ k ran.kind,
          managed_beside k _ _ before now ran runs x later,
          subst (λ o. GoesOn reach (mine c x) of o (λ answered. RunsPlan reach c.session (mine c x) of (next answered) h.0 (end (mine c x) of)) h.0 (end (mine c x) of)) (sym (end_later now x later _ _ ran.end)) h.2,
        ),
        asked_trans c before now x _ (asked_none c before now _ ran.asked) (asked_wider _ _ (λ by t a. subst (λ o. DoesOn o (λ answered. Asks (mine c x) of (next answered) h.0 by t)) (sym (end_later now x later _ _ ran.end)) a) c now x h.3),
      )

  -- why a transaction stops whose manager gave no answer
  pub manage_stops : (k : Kind) (before mid : Past) (why : TxNo) → KindFits c.setting k → Runs c of before → GaveNone c of k before mid why → ((s : Short) → why ≡ tx_no.Short s → ⊥) → Runs c of mid × WhyStop c mid of why
  manage_stops k before mid (tx_no.Short s) fits runs none other = absurd (other s refl)
  manage_stops k before mid (tx_no.Orphan a) fits runs none other = elim none.2 [
    | inl m ↦ (runs_still c of before mid m.0 runs, none.0)
    | inr ran ↦ (runs_managed k _ _ before mid (managed c of k _ before mid runs.nonroot ran) runs, none.0)
  ]
  manage_stops k before mid (tx_no.Conflict copy holder) fits runs ran other =
      let m = managed c of k _ before mid runs.nonroot ran in
      (runs_managed k _ _ before mid m runs, user_cause k _ _ before mid (manages c.setting k fits) m)
  manage_stops k before mid (tx_no.NoQuorum lack) fits runs ran other =
      let m = managed c of k _ before mid runs.nonroot ran in
      (runs_managed k _ _ before mid m runs, user_cause k _ _ before mid (manages c.setting k fits) m)
  manage_stops k before mid tx_no.Last fits runs ran other =
      let m = managed c of k _ before mid runs.nonroot ran in
      (runs_managed k _ _ before mid m runs, user_cause k _ _ before mid (manages c.setting k fits) m)
  manage_stops k before mid tx_no.Ended fits runs none other = (runs_still c of before mid none.0 runs, none.1)
  manage_stops k before mid tx_no.Ready fits runs none other = (runs_still c of before mid none.0 runs, none.1)
  manage_stops k before mid (tx_no.ChildrenOpen child) fits runs none other = absurd none.2
  manage_stops k before mid tx_no.Ledger fits runs none other = absurd none.1

  -- it stops without a child
  pub stopped_still : (before mid now : Past) (why : TxNo) (again : Bool) (plan : Plan) → Made c [] before mid → Stopped c of why mid now again
      → (StopsBy of why (end (mine c now) of) → FollowsPlan c.session (mine c now) of plan [] (end (mine c now) of)) → Ended c of before now plan (finish.Stopped again)
  stopped_still before mid now why again plan m stopped follows = record {
    leaves = leaves_trans c of before mid now (leaves_still c of before mid m) stopped.leaves;
    tried = stopped.tried;
    ends = λ ours. ([], stopped.deeds ∙ ap (λ h. deeds h of) (still c of before mid m) ∙ sym (append-nil _), follows (stopped.ended ours), asked_none c before now _ (asked_trans c before mid now NoOne (asked_made c [] before mid NoOne m tt) stopped.asked));
  }

  -- it stops with the manager as its last child
  stopped_managed : (k : Kind) (x : Cause) (m : Name) (before mid now : Past) (why : TxNo) (again : Bool) (next : Answer → Plan) → Runs c of before → Managed c of k (Abort x) m before mid → Stopped c of why mid now again
      → (StopsBy of why (end (mine c now) of) → ((is_handed_on x ≡ true) × (end (mine c now) of ≡ Some (Abort x))) ⊎ StopsEarly of (end (mine c now) of)) → Ended c of before now (Plan.manage_by k next) (finish.Stopped again)
  stopped_managed k x m before mid now why again next runs ran stopped handed = record {
    leaves = leaves_trans c of before mid now (leaves_managed k _ m before mid ran) stopped.leaves;
    tried = stopped.tried;
    ends = λ ours. (
      Deed.child m ∷ [],
      stopped.deeds ∙ ran.deeds,
      (
        kind_later mid now stopped.leaves.later m k ran.kind,
        managed_beside k _ m before mid ran runs now stopped.leaves.later,
        subst (λ o. GoesOn Reach.to_the_end (mine c now) of o (λ given. FollowsPlan c.session (mine c now) of (next given) [] (end (mine c now) of)) [] (end (mine c now) of)) (sym (end_later mid now stopped.leaves.later m _ ran.end)) (refl, handed (stopped.ended ours)),
      ),
      asked_none c before now _ (asked_trans c before mid now NoOne ran.asked stopped.asked),
    );
  }

  handed_on : (x : Cause) (how : Option How) → is_handed_on x ≡ true → (how ≡ Some (Abort x)) ⊎ WasAsked of how → ((is_handed_on x ≡ true) × (how ≡ Some (Abort x))) ⊎ StopsEarly of how
  handed_on x how is (inl e) = inl (is, e)
  handed_on x how is (inr s) = inr (asked_early of how s)

  -- who stops as an orphan stops early
  pub orphan_early : (a : Name) (how : Option How) → (how ≡ Some (Abort (cause.Orphan a))) ⊎ WasAsked of how → StopsEarly of how
  orphan_early a how (inl e) = subst (StopsEarly of) (sym e) tt
  orphan_early a how (inr s) = asked_early of how s

  pub manage_over : (k : Kind) (before mid now : Past) (why : TxNo) (again : Bool) (next : Answer → Plan) → Runs c of before → GaveNone c of k before mid why → ((s : Short) → why ≡ tx_no.Short s → ⊥) → Stopped c of why mid now again → Ended c of before now (Plan.manage_by k next) (finish.Stopped again)
  manage_over k before mid now (tx_no.Short s) again next runs none other stopped = absurd (other s refl)
  manage_over k before mid now (tx_no.Orphan a) again next runs none other stopped = elim none.2 [
    | inl m ↦ stopped_still before mid now _ again _ m.0 stopped (λ s. orphan_early a _ s)
    | inr ran ↦ stopped_managed k _ _ before mid now _ again next runs (managed c of k _ before mid runs.nonroot ran) stopped (λ s. inr (orphan_early a _ s))
  ]
  manage_over k before mid now (tx_no.Conflict copy holder) again next runs ran other stopped =
      stopped_managed k _ _ before mid now _ again next runs (managed c of k _ before mid runs.nonroot ran) stopped (λ s. handed_on (cause.Conflict copy holder) _ refl s)
  manage_over k before mid now (tx_no.NoQuorum lack) again next runs ran other stopped =
      stopped_managed k _ _ before mid now _ again next runs (managed c of k _ before mid runs.nonroot ran) stopped (λ s. handed_on (cause.NoQuorum lack) _ refl s)
  manage_over k before mid now tx_no.Last again next runs ran other stopped =
      stopped_managed k _ _ before mid now _ again next runs (managed c of k _ before mid runs.nonroot ran) stopped (λ s. handed_on cause.Last _ refl s)
  manage_over k before mid now tx_no.Ended again next runs none other stopped = stopped_still before mid now _ again _ none.0 stopped (λ s. asked_early of _ s)
  manage_over k before mid now tx_no.Ready again next runs none other stopped = stopped_still before mid now _ again _ none.0 stopped (λ s. asked_early of _ s)
  manage_over k before mid now (tx_no.ChildrenOpen child) again next runs none other stopped = absurd none.2
  manage_over k before mid now tx_no.Ledger again next runs none other stopped = absurd none.1

  -- A MANAGER THAT WAS CUT OFF, OR AFTER WHICH ITS TRANSACTION WAS

  -- nothing was made after a manager that was aborted
  cut_managed : (k : Kind) (x : Cause) (m : Name) (before mid now : Past) (next : Answer → Plan) → Runs c of before → Managed c of k (Abort x) m before mid → Made c [] mid now → CutOff c of before now (Plan.manage_by k next)
  cut_managed k x m before mid now next runs ran made =
      let at = (runs_still c of mid now made (runs_managed k _ m before mid ran runs)).above of [] (sym (append-nil of)) runs.nonroot in
      let later = (leaves_still c of mid now made).later in
      record {
        leaves = leaves_trans c of before mid now (leaves_managed k _ m before mid ran) (leaves_cut c of mid now (leaves_still c of mid now made));
        unended = at.0;
        begins = λ ours. (
          Deed.child m ∷ [],
          ap (λ h. deeds h of) (still c of mid now made) ∙ ran.deeds,
          (
            kind_later mid now later m k ran.kind,
            managed_beside k _ m before mid ran runs now later,
            subst (λ o. GoesOn Reach.cut_off (mine c now) of o (λ given. RunsPlan Reach.cut_off c.session (mine c now) of (next given) [] (end (mine c now) of)) [] (end (mine c now) of)) (sym (end_later mid now later m _ ran.end)) (refl, inr (running_stops (mine c now) of _ at.0 at.1)),
          ),
          asked_none c before now _ (asked_trans c before mid now NoOne ran.asked (asked_made c [] mid now NoOne made tt)),
        );
      }

  cut_interrupted : (k : Kind) (m : Name) (before now : Past) (next : Answer → Plan) → Runs c of before → Interrupted c of k m before now → CutOff c of before now (Plan.manage_by k next)
  cut_interrupted k m before now next runs ran =
      let at = runs.above of [] (sym (append-nil of)) runs.nonroot in
      let unready : is_ready (mine c now) of ≡ false = ran.same_ready of [] (sym (append-nil of)) ∙ at.1 in
      let unended : IsUnended of (end (mine c now) of) = subst (λ o. IsUnended of o) (sym (ran.same_end of [] (sym (append-nil of)))) at.0 in
      record {
        leaves = record {
          later = ran.later;
          inside = ran.inside;
          over = tt;
          above = λ p r is far. record {
            deeds = ran.same_deeds p r is far;
            ready = ran.same_ready p r is;
            unended = subst (λ o. IsUnended p o) (sym (ran.same_end p r is));
          };
          turns = λ ours turns alone. (ran.turns turns alone, tt);
        };
        unended = unended;
        begins = λ ours. (
          Deed.child m ∷ [],
          ran.deeds,
          (
            ran.kind,
            later_beside c now now (later_itself c now ran.later.legal) of m (later_seat c before now ran.later of c.number runs.seat) (start_under now m c.number k ran.started),
            subst (λ o. GoesOn Reach.cut_off (mine c now) of o (λ given. RunsPlan Reach.cut_off c.session (mine c now) of (next given) [] (end (mine c now) of)) [] (end (mine c now) of)) (sym ran.end) (refl, running_unended (mine c now) of _ unended unready),
          ),
          asked_none c before now _ ran.asked,
        );
      }

  -- a manager gave no answer for want of memory or room
  pub manage_short : (k : Kind) (before now : Past) (why : TxNo) (next : Answer → Plan) (s : Short) → why ≡ tx_no.Short s → Runs c of before → GaveNone c of k before now why → CutOff c of before now (Plan.manage_by k next)
  manage_short k before now why next s is runs none = either (subst (GaveNone c of k before now) is none).0
    where
      either : WasNotStarted c of before now (tx_no.Short s) ⊎ WasCut c of k before now → CutOff c of before now (Plan.manage_by k next)
      either (inl m) = cut_still c of before now runs m.0 (Plan.manage_by k next)
      either (inr cut) = cut_interrupted k cut.manager before now next runs (interrupted c of k before now runs.nonroot cut)

  -- a manager gave no answer for another reason, and nothing was made after it
  pub manage_cut : (k : Kind) (before mid now : Past) (why : TxNo) (next : Answer → Plan) → Runs c of before → GaveNone c of k before mid why → ((s : Short) → why ≡ tx_no.Short s → ⊥) → Made c [] mid now → CutOff c of before now (Plan.manage_by k next)
  manage_cut k before mid now (tx_no.Short s) next runs none other made = absurd (other s refl)
  manage_cut k before mid now (tx_no.Orphan a) next runs none other made = elim none.2 [
    | inl m ↦ cut_still c of before now runs (made_both c before mid now m.0 made) (Plan.manage_by k next)
    | inr ran ↦ cut_managed k _ _ before mid now next runs (managed c of k _ before mid runs.nonroot ran) made
  ]
  manage_cut k before mid now (tx_no.Conflict copy holder) next runs ran other made = cut_managed k _ _ before mid now next runs (managed c of k _ before mid runs.nonroot ran) made
  manage_cut k before mid now (tx_no.NoQuorum lack) next runs ran other made = cut_managed k _ _ before mid now next runs (managed c of k _ before mid runs.nonroot ran) made
  manage_cut k before mid now tx_no.Last next runs ran other made = cut_managed k _ _ before mid now next runs (managed c of k _ before mid runs.nonroot ran) made
  manage_cut k before mid now tx_no.Ended next runs none other made = cut_still c of before now runs (made_both c before mid now none.0 made) (Plan.manage_by k next)
  manage_cut k before mid now tx_no.Ready next runs none other made = cut_still c of before now runs (made_both c before mid now none.0 made) (Plan.manage_by k next)
  manage_cut k before mid now (tx_no.ChildrenOpen child) next runs none other made = absurd none.2
  manage_cut k before mid now tx_no.Ledger next runs none other made = absurd none.1

  -- A COPY CRASHES

  -- it enters nothing
  pub crash_on : (copy : ℕ) (now : Past) → Runs c of now → WentOn c of now now (Plan.crash_then copy)
  crash_on copy now runs = record { leaves = leaves_itself c of now runs.legal; runs = runs; follows = λ reach d x j later rest ends. ends }

  -- STOPPING AT ONCE

  pub stop_here : (now : Past) (why : TxNo) → Runs c of now → (AreOurs c of now → StopsBy of why (end (mine c now) of)) → Stopped c of why now now false
  stop_here now why runs early = record {
    leaves = leaves_itself c of now runs.legal;
    asked = ([], refl, tt);
    tried = unended_stopped of _ (runs.above of [] (sym (append-nil of)) runs.nonroot).0;
    deeds = refl;
    ended = early;
  }

  pub stop_itself : (now : Past) (a : Name) → Runs c of now → Refuses now of (tx_no.Orphan a) → a ≡ of → Stopped c of (tx_no.Orphan a) now now false
  stop_itself now a runs why is = stop_here now (tx_no.Orphan a) runs (λ ours. inr (ended_early c of now runs ours (subst (λ n. is_some (end now n) ≡ true) is (some_match _ IsAbort why.1))))

  open_not : (now : Past) (child : Name) → Runs c of now → AreOurs c of now → Refuses now of (tx_no.ChildrenOpen child) → ⊥
  open_not now child runs ours why =
      let l = child_last of child why.0 in
      let b = some_is (start now child) why.1 in
      let top : name.is_ancestor (scope c of) child ≡ true = child_scope c of child why.0 in
      let found = own_found c (λ e. Rattle.qc_event.specs.History.start_in child e.seat e.event) b.0 of now
      (λ e f. let s = starting child e.seat e.event (ap is_some f) in subst (λ ev. concerns (scope c of) ev ≡ true) (sym s.1) top) ours b.1 in
      let ended = no_open_child (mine c now) of l.0 (runs.closed ours) (subst (λ n. is_some (start (mine c now) n) ≡ true) l.1 (ap is_some found)) in
      some_or_none (end now child) (kept_some (λ (e : Entry). is_own c e.seat) _ now (subst (λ n. is_some (end (mine c now) n) ≡ true) (sym l.1) ended)) why.2

  -- a refusal of any other kind
  pub stop_other : (now : Past) (why : TxNo) → Runs c of now → WhyStop c now of why → ((copy : ℕ) (h : Name) → why ≡ tx_no.Conflict copy h → ⊥) → ((a : Name) → why ≡ tx_no.Orphan a → ⊥) → ((l : Rattle.qc_event.specs.declared.event.Lack.Lack) → why ≡ tx_no.NoQuorum l → ⊥) → (why ≡ tx_no.Last → ⊥) → Stopped c of why now now false
  stop_other now (tx_no.Short s) runs why n1 n2 n3 n4 = absurd why
  stop_other now (tx_no.Orphan a) runs why n1 n2 n3 n4 = absurd (n2 a refl)
  stop_other now (tx_no.Conflict copy h) runs why n1 n2 n3 n4 = absurd (n1 copy h refl)
  stop_other now (tx_no.NoQuorum l) runs why n1 n2 n3 n4 = absurd (n3 l refl)
  stop_other now tx_no.Last runs why n1 n2 n3 n4 = absurd (n4 refl)
  stop_other now tx_no.Ended runs why n1 n2 n3 n4 = stop_here now tx_no.Ended runs (λ ours. ended_early c of now runs ours why)
  stop_other now tx_no.Ready runs why n1 n2 n3 n4 = stop_here now tx_no.Ready runs (λ ours. absurd (not_ready c of now runs ours of [] (sym (append-nil of)) runs.nonroot why))
  stop_other now (tx_no.ChildrenOpen child) runs why n1 n2 n3 n4 = stop_here now (tx_no.ChildrenOpen child) runs (λ ours. absurd (open_not now child runs ours why))
  stop_other now tx_no.Ledger runs why n1 n2 n3 n4 = absurd why

-- A MANAGER THAT COMMITTED

-- whatever follows by its answer, and whatever branches the client merges later
pub manage_by_on : (c : Client) (of : Name) (k : Kind) (given : Answer) (before now : Past) → Runs c of before → Ran c of k (Commit given) before now → WentBy c of before now k given
manage_by_on c of k given before now runs has =
    let ran = managed c of k (Commit given) before now runs.nonroot has in
    record {
      leaves = leaves_managed c of k _ _ before now ran;
      runs = runs_managed c of k _ _ before now ran runs;
      follows = λ reach d x j later next ends.
          manage_follows d of k given before now (joined_runs c d before (joined_before c d before now ran.later j) of runs) (joined_ran c d now j of k _ before has) reach x later next ends;
    }
