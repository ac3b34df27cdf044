-- How a transaction ends that runs, and what a refusal tells of it.
use Rattle.std.proofs.Common.{◌≡◌, inl, inr, ℕ, ◌<◌, true, false, [], ◌∷◌, ◌++◌, length, refl, sym, ap, ◌∙◌, subst, append-nil, arith, length-append}
use mathlib.Core.Bool.{true≢false}
use Rattle.std.specs.Prelude.{Option, None, Some, MatchOption, is_some}
use Rattle.std.specs.Option.{option_or}
use Rattle.qc_event.specs.declared.event.Cause.{Cause}
use Rattle.qc_event.specs.declared.event.Cause.TheVariants as cause
use Rattle.qc_event.specs.declared.event.Entry.{Entry}
use Rattle.qc_event.specs.declared.event.Event.{Event}
use Rattle.qc_event.specs.declared.event.Event.TheVariants as event
use Rattle.qc_event.specs.declared.event.How.{How}
use Rattle.qc_event.specs.declared.event.How.TheVariants.{Commit, Abort}
use Rattle.qc_event.specs.declared.event.Kind.{Kind}
use Rattle.qc_event.specs.declared.event.Kind.TheVariants as kind
use Rattle.qc_event.specs.Base.{Setting}
use Rattle.qc_event.specs.Dead.{outcome, outcome_of, is_committed}
use Rattle.qc_event.specs.History.{Past, Name, Begun, earliest, start, end, end_in, ready_in, is_ready, same}
use Rattle.qc_event.specs.Legal.{Legal, MayHappen, MayEnd}
use Rattle.qc_event.specs.Commits.{MayCommit}
use Rattle.qc_event.specs.Standing.{Started, IsUser, open_child}
use Rattle.qc_event.proofs.Absent.{if_not, other_length}
use Rattle.qc_event.proofs.Lawful.{lawful, ends_open, committed_is}
use Rattle.qc_event.proofs.LegalOrderly.{legal_orderly}
use Rattle.qc_event.proofs.OneEntry.{end_now, end_step, ending, marking, stays_some, some_or_none, first_is, if_is}
use Rattle.qc_event.proofs.Orderly.{KeepsOrder, Begins}
use Rattle.qc_event.proofs.Later.{started_still}
use Rattle.qc_event.specs.declared.short.Short.{Short}
use Rattle.qc_names.specs.Name as name
use Rattle.qc_script.specs.Calls.{by_client, NotAborted, IsGrounded, IsForChild, IsNone, IsOfSession}
use Rattle.qc_script.specs.Client.{Client, mine, scope, concerns, Made, AreOurs}
use Rattle.qc_interp.specs.Follows.{WasAsked, IsUnended}
use Rattle.qc_script.specs.Plan.{Plan}
use Rattle.qc_interp.proofs.Stepping.Stopping.{unended_stopped, running_runs}
use Rattle.qc_interp.specs.Reach.{Reach, AtTheEnd}
use Rattle.qc_interp.specs.Running.{Runs, LeavesAt, Leaves, CutOff, CameTo, Quit}
use Rattle.qc_interp.specs.declared.stops.Finish.TheVariants as finish
use Rattle.qc_interp.specs.Turns.{acts}
use Rattle.qc_interp.proofs.Scopes.Adding.{all_later, one_stays, over_later}
use Rattle.qc_interp.proofs.Scopes.Scope.{at_scope, in_or_upward, concerns_abort, concerns_commit, concerns_ready}
use Rattle.qc_interp.proofs.Following.Turning.{InTurn, Alone, end_turns, alone_below, itself}
use Rattle.qc_interp.specs.Tries.{is_tried_again}
use Rattle.qc_script.specs.declared.tx.TxNo.{TxNo}
use Rattle.qc_script.specs.declared.tx.TxNo.TheVariants as tx_no
use Rattle.qc_interp.proofs.Scopes.Seats.{later_seat}
use Rattle.qc_interp.proofs.Scopes.Growth.{made_is, made_later, later_itself, later_trans, ours_before, own_found}
use Rattle.qc_interp.specs.Deeds.{deeds}
use Rattle.qc_interp.proofs.Following.Deeds.{deeds_quiet}
use Rattle.qc_interp.proofs.Stepping.Managers.{absent, came_after, one_end, one_ready}
use Rattle.std.specs.List.{list_all}
use Rattle.qc_interp.specs.Adding.{stays_in}
use Rattle.qc_interp.specs.Asking.{ByItself}
use Rattle.qc_interp.proofs.Stepping.Asked.{NoOne, asked_made, asked_none, itself_end}

-- what follows from what is so where the run came to its end
pub at_the_end : (reach : Reach) (P Q : Type 0) → (P → Q) → AtTheEnd reach P → AtTheEnd reach Q
at_the_end Reach.to_the_end P Q step h = step h
at_the_end Reach.cut_off P Q step h = tt

pub at_any : (reach : Reach) (P : Type 0) → P → AtTheEnd reach P
at_any Reach.to_the_end P h = h
at_any Reach.cut_off P h = tt

pub unended_some : (n : Name) (how : Option How) → IsUnended n how → is_some how ≡ true → WasAsked n how
unended_some n how (inl is) h = absurd (some_or_none how h is)
unended_some n how (inr s) h = s

pub unended_commit : (n : Name) (how : Option How) → IsUnended n how → is_committed (outcome_of how) ≡ false
unended_commit n how (inl is) = ap (λ o. is_committed (outcome_of o)) is
unended_commit n None (inr h) = absurd h
unended_commit n (Some (Commit given)) (inr h) = absurd h
unended_commit n (Some (Abort x)) (inr h) = refl

-- A TOP THAT COMMITS IS A READY USER TRANSACTION

pub top_user : (setting : Setting) (past : Past) (x : ℕ) (b : Begun) → Legal setting past → start past (x ∷ []) ≡ Some b → IsUser b.kind
top_user setting [] x b legal is = absurd cc
top_user setting (e ∷ past) x b legal is = elim (first_is (start past (x ∷ [])) _ b is) [
  | inl old ↦ top_user setting past x b legal.0 old
  | inr new ↦ by_event e.event refl new.1
]
  where
    by_event : (ev : Event) → e.event ≡ ev → Rattle.qc_event.specs.History.start_in (x ∷ []) e.seat ev ≡ Some b → IsUser b.kind
    by_event (event.Start n k) same_ev h =
        let t = if_is (same n (x ∷ [])) (record { seat = e.seat; kind = k }) b h in
        let keeps : Begins past n k = subst (KeepsOrder past) same_ev (legal_orderly setting (e ∷ past) legal).1 in
        let at : Begins past (x ∷ []) k = subst (λ m. Begins past m k) (Rattle.qc_event.proofs.Absent.same_is n (x ∷ []) t.0) keeps in
        subst (λ (y : Begun). IsUser y.kind) t.1 at.user
    by_event (event.Ask ask) same_ev h = absurd cc
    by_event (event.Gone n why) same_ev h = absurd cc
    by_event (event.Granted copy grant) same_ev h = absurd cc
    by_event (event.Refused n copy refusal) same_ev h = absurd cc
    by_event (event.Unable n why) same_ev h = absurd cc
    by_event (event.Mark n session) same_ev h = absurd cc
    by_event (event.Ready n) same_ev h = absurd cc
    by_event (event.End n how) same_ev h = absurd cc

pub committed_ready : (setting : Setting) (past : Past) (x : ℕ) (given : Rattle.qc_event.specs.declared.event.Answer.Answer) → Legal setting past → end past (x ∷ []) ≡ Some (Commit given) → is_ready past (x ∷ []) ≡ true
committed_ready setting [] x given legal is = absurd cc
committed_ready setting (e ∷ past) x given legal is = elim (end_step e past (x ∷ []) (Commit given) is) [
  | inl old ↦ stays_some _ _ (committed_ready setting past x given legal.0 old)
  | inr new ↦ stays_some _ _ (by_start (start past (x ∷ [])) refl (subst (MayHappen setting past e.seat) new.1 legal.1))
]
  where
    by_start : (o : Option Begun) → start past (x ∷ []) ≡ o → MatchOption o ⊥ (MayEnd setting past e.seat (x ∷ []) (Commit given)) → is_ready past (x ∷ []) ≡ true
    by_start None at h = absurd h
    by_start (Some b) at h = by_kind b.kind (top_user setting past x b legal.0 at) h
      where
        by_kind : (k : Kind) → IsUser k → MayCommit setting past e.seat (x ∷ []) b given k → is_ready past (x ∷ []) ≡ true
        by_kind (kind.User s body) user may = may.ready
        by_kind (kind.Read rec) user may = absurd user
        by_kind (kind.Write rec value) user may = absurd user
        by_kind (kind.Reconf rec config) user may = absurd user
        by_kind kind.Access user may = absurd user

-- who acts as it ends is at or below it
abbrev pub HasActor : Name → How → Type 0
HasActor n how = (a : Name) × (acts (event.End n how) ≡ Some a) × (name.is_ancestor n a ≡ true)

pub cause_actor : (seen : Past) (n : Name) (x : Cause) → IsGrounded seen n x → HasActor n (Abort x)
cause_actor seen n (cause.Asked by) h = (by, refl, (h 0).1)
cause_actor seen n (cause.Orphan a) h = (n, refl, itself n)
cause_actor seen n (cause.Conflict copy holder) h = (n, refl, itself n)
cause_actor seen n (cause.NoQuorum lack) h = (n, refl, itself n)
cause_actor seen n cause.Last h = (n, refl, itself n)
cause_actor seen n cause.Killed h = (n, refl, itself n)
cause_actor seen n (cause.Child x) h = (n, refl, itself n)
cause_actor seen n cause.Missed h = (n, refl, itself n)

-- who is of a session is a user transaction
pub user_is : (session : ℕ) (past : Past) (n : Name) → Started past n (λ b. IsOfSession session b.kind) → Started past n (λ b. IsUser b.kind)
user_is session past n h = by_start (start past n) h
  where
    by_kind : (k : Kind) → IsOfSession session k → IsUser k
    by_kind (kind.User s body) h = tt
    by_kind (kind.Read rec) h = h
    by_kind (kind.Write rec value) h = h
    by_kind (kind.Reconf rec config) h = h
    by_kind kind.Access h = h

    by_start : (o : Option Begun) → MatchOption o ⊥ (λ (b : Begun). IsOfSession session b.kind) → MatchOption o ⊥ (λ (b : Begun). IsUser b.kind)
    by_start None h = h
    by_start (Some b) h = by_kind b.kind h

module _ (c : Client) (of : Name) where
  -- WHERE ALL IS ONE'S OWN

  module _ (now : Past) (runs : Runs c of now) (ours : AreOurs c of now) where
    own_end : (p : Name) (how : How) → concerns (scope c of) (event.End p how) ≡ true → end now p ≡ Some how → end (mine c now) p ≡ Some how
    own_end p how low h = own_found c (λ e. end_in p e.event) how of now (λ e f. subst (λ ev. concerns (scope c of) ev ≡ true) (sym (ending p e.event how f)) low) ours h

    own_ready : (p r : Name) → of ≡ p ++ r → 0 < length p → is_ready now p ≡ true → is_ready (mine c now) p ≡ true
    own_ready p r is far h =
        let found = Rattle.qc_interp.proofs.Scopes.Mine.some_is (earliest (λ (e : Entry). ready_in p e.event) now) h in
        ap is_some (own_found c (λ e. ready_in p e.event) found.0 of now
        (λ e f. subst (λ ev. concerns (scope c of) ev ≡ true) (sym (marking p e.event (ap is_some f))) (concerns_ready (scope c of) p (in_or_upward c of p r is far))) ours found.1)

    pub not_ready : (p r : Name) → of ≡ p ++ r → 0 < length p → is_ready now p ≡ true → ⊥
    not_ready p r is far h = true≢false (sym (own_ready p r is far h) ∙ (runs.above p r is far).1)

    pub not_committed : (p r : Name) → of ≡ p ++ r → is_committed (outcome now p) ≡ true → ⊥
    not_committed [] r is h =
        let g = committed_is (end now []) h in
        some_or_none (end now []) (ap is_some g.1) (lawful now (legal_orderly c.setting now runs.legal)).no_root_end
    not_committed (x ∷ []) r is h =
        let g = committed_is (end now (x ∷ [])) h in
        not_ready (x ∷ []) r is (omega arith) (committed_ready c.setting now x g.0 runs.legal g.1)
    not_committed (x ∷ y ∷ p) r is h =
        let g = committed_is (end now (x ∷ y ∷ p)) h in
        let low = concerns_commit (scope c of) (x ∷ y ∷ p) g.0 (in_or_upward c of (x ∷ y ∷ p) r is (omega arith)) (omega arith) in
        let found = own_end (x ∷ y ∷ p) (Commit g.0) low g.1 in
        true≢false (sym (ap (λ o. is_committed (outcome_of o)) found) ∙ unended_commit (x ∷ y ∷ p) _ (runs.above (x ∷ y ∷ p) r is (omega arith)).0)

    -- who has ended was stopped early
    pub ended_early : is_some (end now of) ≡ true → WasAsked of (end (mine c now) of)
    ended_early some = by_end (end now of) refl some
      where
        by_end : (o : Option How) → end now of ≡ o → is_some o ≡ true → WasAsked of (end (mine c now) of)
        by_end None is h = absurd (true≢false (sym h))
        by_end (Some (Commit given)) is h = absurd (not_committed of [] (sym (append-nil of)) (ap (λ o. is_committed (outcome_of o)) is))
        by_end (Some (Abort x)) is h =
            let found = own_end of (Abort x) (concerns_abort (scope c of) of x (at_scope c of)) is in
            unended_some of _ (runs.above of [] (sym (append-nil of)) runs.nonroot).0 (ap is_some found)

  -- WHAT IS LEFT

  pub leaves_itself : (now : Past) → Legal c.setting now → Leaves c of now now
  leaves_itself now legal = record { inside = refl; over = λ was. was; later = later_itself c now legal; above = λ p r is far. record { deeds = refl; ready = refl; unended = λ h. h }; turns = λ ours turns alone. (turns, alone) }

  pub leaves_trans : {reach : Reach} (a b d : Past) → Leaves c of a b → LeavesAt reach c of b d → LeavesAt reach c of a d
  leaves_trans {reach = reach} a b d f g = record {
    later = later_trans c a b d f.later g.later;
    inside = all_later _ c f.later.newer g.later.newer f.inside g.inside;
    over = at_the_end reach _ _ (λ over was. over (f.over was)) g.over;
    above = λ p r is far. record {
      deeds = (g.above p r is far).deeds ∙ (f.above p r is far).deeds;
      ready = (g.above p r is far).ready ∙ (f.above p r is far).ready;
      unended = λ h. (g.above p r is far).unended ((f.above p r is far).unended h);
    };
    turns = λ ours turns alone. let m = f.turns (ours_before c of b d g.later ours) turns alone in g.turns ours m.0 m.1;
  }

  -- what is left is left where the run was cut off
  pub leaves_cut : (before now : Past) → Leaves c of before now → LeavesAt Reach.cut_off c of before now
  leaves_cut before now f = record { later = f.later; inside = f.inside; over = tt; above = f.above; turns = λ ours turns alone. ((f.turns ours turns alone).0, tt) }

  module _ (before now : Past) (m : Made c [] before now) where
    pub still : mine c now ≡ mine c before
    still = made_is c [] before now m

    pub leaves_still : Leaves c of before now
    leaves_still = record {
      later = made_later c [] before now m;
      inside = ap (list_all (stays_in (scope c of))) m.made;
      over = λ was r. over_later c before now (made_later c [] before now m) of (was (sym (ap (λ h. is_ready h of) still) ∙ r));
      above = λ p r is far. record { deeds = ap (λ h. deeds h p) still; ready = ap (λ h. is_ready h p) still; unended = subst (λ h. IsUnended p (end h p)) (sym still) };
      turns = λ ours turns alone. subst (λ h. InTurn h × Alone h of) (sym still) (turns, alone);
    }

    pub runs_still : Runs c of before → Runs c of now
    runs_still runs = record {
      legal = m.legal;
      user = subst (λ h. Started h of (λ b. IsOfSession c.session b.kind)) (sym m.grown) (started_still m.newer before of _ runs.user);
      seat = later_seat c before now (made_later c [] before now m) of c.number runs.seat;
      nonroot = runs.nonroot;
      below = runs.below;
      above = λ p r is far. subst (λ h. IsUnended p (end h p) × (is_ready h p ≡ false)) (sym still) (runs.above p r is far);
      closed = λ ours. ap (λ h. open_child h of) still ∙ runs.closed (ours_before c of before now (made_later c [] before now m) ours);
    }

  -- it was cut off before it did anything of a plan
  pub cut_still : (before now : Past) → Runs c of before → Made c [] before now → (plan : Plan) → CutOff c of before now plan
  cut_still before now runs m plan =
      let at = (runs_still before now m runs).above of [] (sym (append-nil of)) runs.nonroot in
      record {
        leaves = leaves_cut before now (leaves_still before now m);
        unended = at.0;
        begins = λ ours. ([], ap (λ h. deeds h of) (still before now m) ∙ sym (append-nil _), running_runs c.session (mine c now) of _ at.0 at.1 plan, asked_none c before now _ (asked_made c [] before now NoOne m tt));
      }

  -- an end that is made
  module _ (how : How) (before now : Past) (m : Made c (by_client c (event.End of how) ∷ []) before now) where
    now_is : mine c now ≡ by_client c (event.End of how) ∷ mine c before
    now_is = made_is c _ before now m

    pub leaves_end : HasActor of how → Leaves c of before now
    leaves_end actor = record {
      turns = λ ours turns alone. subst (λ h. InTurn h × Alone h of) (sym now_is) (end_turns (by_client c (event.End of how)) (mine c before) actor.0 of how refl actor.1 turns (alone_below (mine c before) of actor.0 actor.2 alone) alone);
      later = made_later c _ before now m;
      inside = ap (list_all (stays_in (scope c of))) m.made ∙ one_stays (scope c of) of (by_client c (event.End of how)) refl refl (at_scope c of);
      over = λ was r. over_later c before now (made_later c _ before now m) of (was (sym (one_ready c _ before now m of refl) ∙ r));
      above = λ p r is far.
          let quiet : end_in p (event.End of how) ≡ None = if_not (same of p) (Some how) (other_length of p (λ l. omega (arith, l, far, ap length is ∙ length-append p r))) in
          record {
            deeds = ap (λ h. deeds h p) now_is ∙ deeds_quiet p (by_client c (event.End of how) ∷ []) (mine c before) ((λ past. refl), tt);
            ready = one_ready c _ before now m p refl;
            unended = subst (λ o. IsUnended p o) (sym (one_end c _ before now m p quiet));
          };
    }

    pub deeds_end : deeds (mine c now) of ≡ deeds (mine c before) of
    deeds_end = ap (λ h. deeds h of) now_is ∙ deeds_quiet of (by_client c (event.End of how) ∷ []) (mine c before) ((λ past. refl), tt)

    pub ends_so : end (mine c now) of ≡ Some how
    ends_so =
        let at = came_after c [] (by_client c (event.End of how)) [] before now m in
        let keeps : KeepsOrder (at.mid ++ before) (event.End of how) = (legal_orderly c.setting (by_client c (event.End of how) ∷ (at.mid ++ before)) at.legal).1 in
        let was = absent c _ at.mid before (ends_open (at.mid ++ before) (by_client c (event.End of how)) of how refl keeps).not_ended in
        ap (λ h. end h of) now_is ∙ ap (λ o. option_or o (end_in of (event.End of how))) was ∙ end_now of (event.End of how) how refl

  -- QUITTING

  pub quit_ok : (cause : Cause) (before now : Past) → IsGrounded before of cause → ByItself of cause → Made c (by_client c (event.End of (Abort cause)) ∷ []) before now → Quit c of (Abort cause) before now (is_tried_again (Some (Abort cause)))
  quit_ok cause before now grounded itself m = record {
    asked = asked_made c _ before now NoOne m (itself_end of cause itself, tt);
    leaves = leaves_end (Abort cause) before now m (cause_actor before of cause grounded);
    tried = subst (CameTo (finish.Stopped (is_tried_again (Some (Abort cause))))) (sym (ends_so (Abort cause) before now m)) refl;
    deeds = deeds_end (Abort cause) before now m;
    ended = λ ours. inl (ends_so (Abort cause) before now m);
  }

  quit_still : (how : How) (before now : Past) → Runs c of before → Made c [] before now → (Runs c of now → AreOurs c of now → WasAsked of (end (mine c now) of)) → Quit c of how before now false
  quit_still how before now runs m early =
      let after = runs_still before now m runs in
      record {
        leaves = leaves_still before now m;
        asked = asked_made c [] before now NoOne m tt;
        tried = unended_stopped of _ (after.above of [] (sym (append-nil of)) after.nonroot).0;
        deeds = ap (λ h. deeds h of) (still before now m);
        ended = λ ours. inr (early after ours);
      }

  not_for_child : (x : Cause) → ByItself of x → IsForChild x → ⊥
  not_for_child (cause.Child child) itself h = itself
  not_for_child (cause.Asked by) itself h = h
  not_for_child (cause.Orphan a) itself h = h
  not_for_child (cause.Conflict copy holder) itself h = h
  not_for_child (cause.NoQuorum lack) itself h = h
  not_for_child cause.Last itself h = h
  not_for_child cause.Killed itself h = h
  not_for_child cause.Missed itself h = h

  pub quit_no : (cause : Cause) (before now : Past) (why : TxNo) → Runs c of before → IsGrounded before of cause → ByItself of cause → NotAborted c of cause before now why → ((s : Short) → why ≡ tx_no.Short s → ⊥) → Quit c of (Abort cause) before now false
  quit_no x before now (tx_no.Short s) runs grounded itself none_made other = absurd (other s refl)
  quit_no x before now tx_no.Ended runs grounded itself none_made other = quit_still (Abort x) before now runs none_made.0 (λ after ours. elim none_made.1 [
    | inl some ↦ ended_early now after ours some
    | inr none ↦ absurd (by_cause now x after ours grounded itself none)
  ])
    where
      by_cause : (now : Past) (x : Cause) → Runs c of now → AreOurs c of now → IsGrounded before of x → ByItself of x → IsNone now x → ⊥
      by_cause now (cause.Orphan a) after ours grounded itself none =
          let r = Rattle.qc_event.proofs.LastNumber.rest_of a of grounded.0 in
          not_committed now after ours a r.0 r.1 none
      by_cause now (cause.Asked by) after ours grounded itself none = none
      by_cause now (cause.Conflict copy holder) after ours grounded itself none = none
      by_cause now (cause.NoQuorum lack) after ours grounded itself none = none
      by_cause now cause.Last after ours grounded itself none = none
      by_cause now cause.Killed after ours grounded itself none = none
      by_cause now (cause.Child y) after ours grounded itself none = itself
      by_cause now cause.Missed after ours grounded itself none = none
  quit_no x before now tx_no.Ready runs grounded itself none_made other = quit_still (Abort x) before now runs none_made.0 (λ after ours. absurd (not_ready now after ours of [] (sym (append-nil of)) after.nonroot none_made.1))
  quit_no x before now (tx_no.Orphan a) runs grounded itself none_made other = absurd (not_for_child x itself none_made.1)
  quit_no x before now (tx_no.Conflict copy holder) runs grounded itself none_made other = absurd none_made
  quit_no x before now (tx_no.NoQuorum lack) runs grounded itself none_made other = absurd none_made
  quit_no x before now tx_no.Last runs grounded itself none_made other = absurd none_made
  quit_no x before now (tx_no.ChildrenOpen y) runs grounded itself none_made other = absurd none_made
  quit_no x before now tx_no.Ledger runs grounded itself none_made other = absurd none_made
