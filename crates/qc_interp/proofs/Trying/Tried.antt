-- What a try of a child leaves that ended, or that was cut off.
use Rattle.std.proofs.Common.{◌≡◌, inl, inr, ℕ, ◌<◌, ◌≤◌, ◌+◌, true, false, [], ◌∷◌, ◌++◌, length, refl, sym, ap, ◌∙◌, subst, append-nil, append_assoc, arith, length-append}
use Rattle.std.specs.Prelude.{Some, MatchOption, is_some, is_none, IsTrue, not, find, option_map, ◌&&◌}
use Rattle.std.proofs.lemmas.Bool.{false_from_ne_true}
use Rattle.qc_event.specs.declared.event.Entry.{Entry}
use Rattle.qc_event.specs.declared.event.Event.TheVariants as event
use Rattle.qc_event.specs.declared.event.Kind.TheVariants as kind
use Rattle.qc_event.specs.History.{Past, Name, Begun, end, is_ready, is_child, kind_of}
use Rattle.qc_event.specs.Standing.{Started, IsUser}
use Rattle.qc_event.proofs.LastNumber.{child_last, length_last, child_longer, no_child_length, below_more}
use Rattle.qc_event.proofs.OneEntry.{start_is}
use Rattle.qc_event.proofs.Later.{started_still}
use Rattle.qc_event.proofs.LegalOrderly.{ready_top}
use Rattle.qc_names.specs.Name as name
use Rattle.qc_script.specs.Calls.{by_client, IsOfSession}
use Rattle.qc_script.specs.Client.{Client, mine, is_own, scope, Made, IsLater, AreOurs}
use Rattle.qc_interp.specs.Deeds.{Deed, deeds}
use Rattle.qc_interp.proofs.Following.Deeds.{start_silent, deeds_quiet, child_deed, same_children}
use Rattle.qc_interp.specs.Follows.{IsUnended}
use Rattle.qc_interp.specs.Reach.{Reach}
use Rattle.qc_interp.specs.Turns.{seat_of, is_beside}
use Rattle.qc_script.specs.Plan.{Numbered}
use Rattle.qc_interp.specs.Running.{Runs, LeavesIt, LeavesAt, Leaves, EndsAt, CameTo, Ended, CutOff}
use Rattle.qc_interp.specs.Tries.{is_tried_again}
use Rattle.qc_interp.specs.declared.stops.Finish.{Finish}
use Rattle.qc_interp.proofs.Scopes.Adding.{all_later, start_stays_in, over_later}
use Rattle.qc_interp.proofs.Scopes.Scope.{child_scope, same_scope}
use Rattle.qc_interp.proofs.Following.Turning.{InTurn, Alone, child_keeps, start_turns, alone_up, some_done}
use Rattle.qc_interp.proofs.Scopes.Mine.{kept_some}
use Rattle.qc_interp.proofs.Scopes.Seats.{start_under, later_seat, later_beside}
use Rattle.qc_interp.proofs.Scopes.Growth.{made_is, made_later, later_itself, later_trans, ours_before}
use Rattle.qc_interp.proofs.Stepping.Managers.{NewChild, new_child, one_end, one_ready}
use Rattle.qc_interp.proofs.Trying.OneTry.{IsTry, is_try, left_above, ended_below}
use Rattle.qc_interp.proofs.Stepping.Stopping.{unended_again}
use Rattle.qc_interp.proofs.Stepping.Ending.{user_is}
use Rattle.qc_interp.proofs.Stepping.StepsLeave.{closed_more}
use Rattle.std.specs.List.{list_all}
use Rattle.qc_interp.specs.Adding.{stays_in, AllStayIn}

-- A CHILD THAT BEGINS

-- what a child needs to begin: by what the client made its parent and those above have not ended themselves, nor are ready
pub record MayBegin (c : Client) (of : Name) (now : Past) : Type 0 where
  pub nonroot : 0 < length of
  pub short : length c.root ≤ length of
  pub below : IsTrue (name.is_ancestor c.root of)
  pub above : (p r : Name) → of ≡ p ++ r → 0 < length p → IsUnended p (end (mine c now) p) × (is_ready (mine c now) p ≡ false)

pub may_begin : (c : Client) (of : Name) (now : Past) → Runs c of now → MayBegin c of now
may_begin c of now runs = record { nonroot = runs.nonroot; short = let l = runs.below.0 in omega (arith, l); below = runs.below.1; above = runs.above }

module _ (c : Client) (of n : Name) (number : ℕ) (before now : Past) (may : MayBegin c of before) (child : is_child of n ≡ true)
    (m : Made c (by_client c (event.Start n (kind.User c.session number)) ∷ []) before now) where
  abbrev begins : Entry
  begins = by_client c (event.Start n (kind.User c.session number))

  now_is : mine c now ≡ begins ∷ mine c before
  now_is = made_is c _ before now m

  new : NewChild c of n (kind.User c.session number) before now
  new = new_child c [] [] of n (kind.User c.session number) before now may.nonroot child m

  longer : length n ≡ length of + 1
  longer = child_longer of n child

  abbrev pub later_begun : IsLater c before now
  later_begun = made_later c _ before now m

  -- at the transactions from the parent up
  module _ (p r : Name) (is : of ≡ p ++ r) where
    short : length p + length r ≡ length of
    short = sym (ap length is ∙ length-append p r)

    pub end_begun : end (mine c now) p ≡ end (mine c before) p
    end_begun = one_end c _ before now m p refl

    pub ready_begun : is_ready (mine c now) p ≡ is_ready (mine c before) p
    ready_begun = one_ready c _ before now m p refl

    pub deeds_above : 0 < length r → deeds (mine c now) p ≡ deeds (mine c before) p
    deeds_above far = ap (λ h. deeds h p) now_is ∙ deeds_quiet p (begins ∷ []) (mine c before) (start_silent p n (kind.User c.session number) (no_child_length p n (λ l. omega (arith, l, longer, short, far))), tt)

  pub deeds_begun : deeds (mine c now) of ≡ deeds (mine c before) of ++ Deed.child n ∷ []
  deeds_begun = ap (λ h. deeds h of) now_is ∙ child_deed begins (mine c before) of n (kind.User c.session number) refl child

  pub kind_begun : kind_of (mine c now) n ≡ Some (kind.User c.session number)
  kind_begun = ap (λ h. kind_of h n) now_is ∙ ap (option_map (λ (b : Begun). b.kind)) (start_is begins (mine c before) n (kind.User c.session number) new.fresh.no_start refl)

  pub above_begun : (p r : Name) → of ≡ p ++ r → 0 < length r → LeavesIt c p before now
  above_begun p r is far = record { deeds = deeds_above p r is far; ready = ready_begun p r is; unended = subst (λ o. IsUnended p o) (sym (end_begun p r is)) }

  pub inside_begun : AllStayIn c (scope c of) later_begun.newer
  inside_begun = ap (list_all (stays_in (scope c of))) m.made ∙ ap (λ b. b && true) (start_stays_in (scope c of) n (kind.User c.session number) begins refl (omega (arith, longer, may.nonroot)) (child_scope c of n child))

  pub turns_begun : InTurn (mine c before) → Alone (mine c before) of → InTurn (mine c now) × Alone (mine c now) n
  turns_begun turns alone = subst (λ h. InTurn h × Alone h n) (sym now_is) (start_turns begins (mine c before) of n (kind.User c.session number) refl child (child_keeps begins (mine c before) of n (kind.User c.session number) may.nonroot child refl) turns alone)

  pub none_begun : deeds (mine c now) n ≡ []
  none_begun = ap (λ h. deeds h n) now_is ∙ deeds_quiet n (begins ∷ []) (mine c before) (start_silent n n (kind.User c.session number) (no_child_length n n (λ l. omega (arith, l))), tt) ∙ new.idle

  unready_begun : is_ready (mine c now) n ≡ false
  unready_begun = false_from_ne_true _ (λ h. ready_child h)
    where
      ready_child : is_ready (mine c now) n ≡ true → ⊥
      ready_child h =
          let short = ready_top c.setting now n m.legal (kept_some (λ (e : Entry). is_own c e.seat) _ now h) in
          omega (arith, short, longer, may.nonroot)

  pub seat_begun : seat_of now n ≡ Some c.number
  seat_begun = start_under now n c.number (kind.User c.session number) new.started

  -- the child runs, below its parent
  pub runs_begun : Runs c n now
  runs_begun = record {
    legal = m.legal;
    user = subst (λ o. MatchOption o ⊥ (λ (b : Begun). IsOfSession c.session b.kind)) (sym new.started) refl;
    seat = seat_begun;
    nonroot = omega (arith, longer);
    below = (omega (arith, longer, may.short), ap (name.is_ancestor c.root) l.1 ∙ below_more c.root of (l.0 ∷ []) may.below);
    above = above_child;
    closed = λ ours. ap (find (λ x. is_none (end (mine c now) x))) (same_children (mine c now) [] n none_begun);
  }
    where
      l : (j : ℕ) × (n ≡ of ++ j ∷ [])
      l = child_last of n child

      above_child : (p r : Name) → n ≡ p ++ r → 0 < length p → IsUnended p (end (mine c now) p) × (is_ready (mine c now) p ≡ false)
      above_child p r is far = elim (Rattle.qc_event.proofs.LastNumber.ends_in r) [
        | inl none ↦
            let at : n ≡ p = is ∙ ap (λ x. p ++ x) none ∙ append-nil p in
            subst (λ x. IsUnended x (end (mine c now) x) × (is_ready (mine c now) x ≡ false)) at (inl (one_end c _ before now m n refl ∙ new.fresh.no_end), unready_begun)
        | inr e ↦
            let up : of ≡ p ++ e.0 = (Rattle.qc_event.proofs.LastNumber.same_last of (p ++ e.0) l.0 e.1 (sym l.1 ∙ is ∙ ap (λ x. p ++ x) e.2 ∙ sym (append_assoc p e.0 (e.1 ∷ [])))).0 in
            (subst (λ o. IsUnended p o) (sym (end_begun p e.0 up)) (may.above p e.0 up far).0, ready_begun p e.0 up ∙ (may.above p e.0 up far).1)
      ]

-- A TRY OF A CHILD

-- of a body, that ended, below its parent
pub record Tried (c : Client) (of child : Name) (body : Numbered) (before now : Past) (to : Finish) : Type 0 where
  pub leaves : Leaves c of before now
  pub runs : Runs c of now
  pub is_one : is_child of child ≡ true
  pub user : Started now child (λ b. IsUser b.kind)
  pub seat : seat_of now child ≡ Some c.number
  pub more : deeds (mine c now) of ≡ deeds (mine c before) of ++ Deed.child child ∷ []
  pub one : IsTry Reach.to_the_end c child body (AreOurs c of now) before now
  pub tried : CameTo to (end (mine c now) child)
  pub ended : AreOurs c of now → is_some (end (mine c now) child) ≡ true

-- of a body that was cut off
pub record CutTry (c : Client) (of : Name) (body : Numbered) (before now : Past) : Type 0 where
  pub leaves : LeavesAt Reach.cut_off c of before now
  pub unended : IsUnended of (end (mine c now) of)
  pub unready : is_ready (mine c now) of ≡ false
  pub child : Name
  pub more : deeds (mine c now) of ≡ deeds (mine c before) of ++ Deed.child child ∷ []
  pub beside : is_beside (mine c now) of child ≡ true
  pub one : IsTry Reach.cut_off c child body (AreOurs c of now) before now
  pub tried : is_tried_again (end (mine c now) child) ≡ false

module _ (c : Client) (of n : Name) (body : Numbered) (before mid now : Past) (runs : Runs c of before) (child : is_child of n ≡ true)
    (m : Made c (by_client c (event.Start n (kind.User c.session body.number)) ∷ []) before mid) where
  scope_is : scope c n ≡ scope c of
  scope_is = same_scope c of n runs.below child

  ours_child : AreOurs c of now → AreOurs c n now
  ours_child ours = subst (λ t. IsTrue (Rattle.std.specs.List.list_all (λ (e : Entry). Rattle.std.specs.Prelude.◌||◌ (not (Rattle.qc_script.specs.Client.concerns t e.event)) (is_own c e.seat)) now)) (sym scope_is) ours

  -- by what the child left, which has ended or was cut off
  module _ (reach : Reach) (leaves : LeavesAt reach c n mid now) where
    left : (p r : Name) → of ≡ p ++ r → LeavesIt c p mid now
    left = left_above reach c of n mid now child leaves

    more_is : deeds (mine c now) of ≡ deeds (mine c before) of ++ Deed.child n ∷ []
    more_is = (left of [] (sym (append-nil of))).deeds ∙ deeds_begun c of n body.number before mid (may_begin c of before runs) child m

    abbrev later_is : IsLater c before now
    later_is = later_trans c before mid now (later_begun c of n body.number before mid (may_begin c of before runs) child m) leaves.later

    inside_is : AllStayIn c (scope c of) later_is.newer
    inside_is = all_later _ c _ leaves.later.newer (inside_begun c of n body.number before mid (may_begin c of before runs) child m) (subst (λ t. AllStayIn c t leaves.later.newer) scope_is leaves.inside)

    unended_is : (p r : Name) → of ≡ p ++ r → IsUnended p (end (mine c before) p) → IsUnended p (end (mine c now) p)
    unended_is p r is h = (left p r is).unended (subst (λ o. IsUnended p o) (sym (end_begun c of n body.number before mid (may_begin c of before runs) child m p r is)) h)

    ready_is : (p r : Name) → of ≡ p ++ r → is_ready (mine c now) p ≡ is_ready (mine c before) p
    ready_is p r is = (left p r is).ready ∙ ready_begun c of n body.number before mid (may_begin c of before runs) child m p r is

    above_is : (p r : Name) → of ≡ p ++ r → 0 < length r → LeavesIt c p before now
    above_is p r is far =
        let a = above_begun c of n body.number before mid (may_begin c of before runs) child m p r is far in
        record { deeds = (left p r is).deeds ∙ a.deeds; ready = ready_is p r is; unended = unended_is p r is }

    seat_is : seat_of now n ≡ Some c.number
    seat_is = later_seat c mid now leaves.later n c.number (seat_begun c of n body.number before mid (may_begin c of before runs) child m)

    parent_seat : seat_of now of ≡ Some c.number
    parent_seat = later_seat c before now later_is of c.number runs.seat

    one_is : EndsAt reach c n mid now body.plan → IsTry reach c n body (AreOurs c of now) before now
    one_is ends =
        let may = may_begin c of before runs in
        is_try reach c n body (AreOurs c of now) before mid now m (kind_begun c of n body.number before mid may child m) (none_begun c of n body.number before mid may child m) leaves.later ends ours_child

  module _ (to : Finish) (ended : Ended c n mid now body.plan to) where
    ended_is : AreOurs c of now → is_some (end (mine c now) n) ≡ true
    ended_is ours = ended_below c of n body.plan now runs.nonroot child ended.leaves.later.legal ((one_is Reach.to_the_end ended.leaves ended.ends).runs ours)

    leaves_is : Leaves c of before now
    leaves_is = record {
      turns = λ ours turns alone.
          let a = turns_begun c of n body.number before mid (may_begin c of before runs) child m turns alone in
          let b = ended.leaves.turns (ours_child ours) a.0 a.1 in
          (b.0, alone_up (mine c now) of n child (some_done (mine c now) n (ended_is ours)) b.1);
      later = later_is Reach.to_the_end ended.leaves;
      inside = inside_is Reach.to_the_end ended.leaves;
      over = λ was r. over_later c before now (later_is Reach.to_the_end ended.leaves) of (was (sym (ready_is Reach.to_the_end ended.leaves of [] (sym (append-nil of))) ∙ r));
      above = above_is Reach.to_the_end ended.leaves;
    }

    pub tried_once : Tried c of n body before now to
    tried_once = record {
      leaves = leaves_is;
      runs = record {
        legal = ended.leaves.later.legal;
        user = subst (λ h. Started h of (λ b. IsOfSession c.session b.kind)) (sym (later_is Reach.to_the_end ended.leaves).grown) (started_still (later_is Reach.to_the_end ended.leaves).newer before of _ runs.user);
        seat = parent_seat Reach.to_the_end ended.leaves;
        nonroot = runs.nonroot;
        below = runs.below;
        above = λ p r is far. (unended_is Reach.to_the_end ended.leaves p r is (runs.above p r is far).0, ready_is Reach.to_the_end ended.leaves p r is ∙ (runs.above p r is far).1);
        closed = λ ours. closed_more c of before now n (later_is Reach.to_the_end ended.leaves) (more_is Reach.to_the_end ended.leaves) (runs.closed (ours_before c of before now (later_is Reach.to_the_end ended.leaves) ours)) (ended_is ours);
      };
      is_one = child;
      user = subst (λ h. Started h n (λ b. IsUser b.kind)) (sym ended.leaves.later.grown) (started_still ended.leaves.later.newer mid n _ (user_is c.session mid n (runs_begun c of n body.number before mid (may_begin c of before runs) child m).user));
      seat = seat_is Reach.to_the_end ended.leaves;
      more = more_is Reach.to_the_end ended.leaves;
      one = one_is Reach.to_the_end ended.leaves ended.ends;
      tried = ended.tried;
      ended = ended_is;
    }

  pub cut_once : CutOff c n mid now body.plan → CutTry c of body before now
  cut_once cut = record {
    leaves = record {
      turns = λ ours turns alone.
          let a = turns_begun c of n body.number before mid (may_begin c of before runs) child m turns alone in
          ((cut.leaves.turns (ours_child ours) a.0 a.1).0, tt);
      later = later_is Reach.cut_off cut.leaves;
      inside = inside_is Reach.cut_off cut.leaves;
      over = tt;
      above = above_is Reach.cut_off cut.leaves;
    };
    unended = unended_is Reach.cut_off cut.leaves of [] (sym (append-nil of)) (runs.above of [] (sym (append-nil of)) runs.nonroot).0;
    unready = ready_is Reach.cut_off cut.leaves of [] (sym (append-nil of)) ∙ (runs.above of [] (sym (append-nil of)) runs.nonroot).1;
    child = n;
    more = more_is Reach.cut_off cut.leaves;
    beside = later_beside c now now (later_itself c now cut.leaves.later.legal) of n (parent_seat Reach.cut_off cut.leaves) (seat_is Reach.cut_off cut.leaves);
    one = one_is Reach.cut_off cut.leaves cut.begins;
    tried = unended_again n _ cut.unended;
  }
