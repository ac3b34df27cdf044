-- What a transaction leaves that aborts an ancestor, or commits.
use Rattle.std.proofs.Common.{◌≡◌, ◌⊎◌, inl, inr, ℕ, zero, suc, ◌<◌, ◌+◌, ◌-◌, Bool, true, false, [], ◌∷◌, ◌++◌, length, take, drop, refl, sym, ap, ◌∙◌, subst, append-nil, arith, length-append, take-append-drop}
use Rattle.std.specs.Prelude.{Option, None, Some, is_some, is_none, not, find, if◌then◌else◌, ◌&&◌}
use Rattle.std.specs.Option.{option_or}
use Rattle.qc_event.specs.declared.event.Answer.TheVariants as answer
use Rattle.qc_event.specs.declared.event.Cause.TheVariants as cause
use Rattle.qc_event.specs.declared.event.Entry.{Entry}
use Rattle.qc_event.specs.declared.event.Event.TheVariants as event
use Rattle.qc_event.specs.declared.event.How.{How}
use Rattle.qc_event.specs.declared.event.How.TheVariants.{Commit, Abort}
use Rattle.qc_event.specs.History.{Past, Name, end, end_in, ready_in, is_ready, children, same}
use Rattle.qc_event.specs.Standing.{Started, IsUser}
use Rattle.qc_event.proofs.Absent.{if_not, same_is, same_itself, other_length}
use Rattle.qc_event.proofs.LastNumber.{is_ancestor-append}
use Rattle.qc_event.proofs.LegalOrderly.{legal_orderly}
use Rattle.qc_event.proofs.Lawful.{lawful}
use Rattle.qc_event.proofs.Lineage.{above_user}
use Rattle.qc_event.proofs.OneEntry.{end_now, some_not_none, some_if_not_none}
use Rattle.qc_event.proofs.Later.{started_still}
use Rattle.qc_names.specs.Name as name
use Rattle.qc_script.specs.Calls.{by_client, NotAborted, Committed, MadeReady, NotCommitted, IsOfSession, is_over}
use Rattle.qc_script.specs.Client.{Client, mine, is_own, scope, Made}
use Rattle.qc_interp.specs.Deeds.{deeds}
use Rattle.qc_interp.proofs.Following.Deeds.{same_children, deeds_quiet}
use Rattle.qc_interp.specs.Follows.{WasAsked, WasKilled, IsUnended, StopsBefore, FollowsPlan, asked_end, above}
use Rattle.qc_script.specs.Plan.{Plan}
use Rattle.qc_interp.specs.Reach.{Reach, AtTheEnd}
use Rattle.qc_interp.specs.Running.{Runs, LeavesAt, Leaves, CutOff, Quit, WhyStop, Stopped, CameTo, Ended}
use Rattle.qc_interp.specs.declared.stops.Finish.{Finish}
use Rattle.qc_interp.specs.declared.stops.Finish.TheVariants as finish
use Rattle.qc_script.specs.declared.tx.TxNo.{TxNo}
use Rattle.qc_script.specs.declared.tx.TxNo.TheVariants as tx_no
use Rattle.qc_interp.proofs.Scopes.Mine.{kept_some}
use Rattle.qc_interp.proofs.Scopes.Scope.{at_scope, in_or_upward}
use Rattle.qc_interp.proofs.Scopes.Adding.{asks_stays, one_stays, over_later, over_ended}
use Rattle.qc_interp.proofs.Following.Turning.{InTurn, Alone, act_turns, itself}
use Rattle.qc_interp.proofs.Scopes.Seats.{later_seat}
use Rattle.qc_interp.proofs.Scopes.Growth.{made_is, made_later, ours_before}
use Rattle.qc_interp.proofs.Following.Followed.{follows_runs}
use Rattle.qc_event.proofs.Orderly.{KeepsOrder}
use Rattle.qc_event.specs.declared.short.Short.{Short}
use Rattle.qc_interp.proofs.Stepping.Managers.{absent, came_after, one_end, one_ready}
use Rattle.qc_interp.proofs.Stepping.Stopping.{asked_early, unended_stopped, unended_unkilled, running_unended}
use Rattle.qc_interp.proofs.Stepping.Ending.{at_any, at_the_end, not_ready, leaves_trans, leaves_cut, cut_still, still, leaves_still, runs_still, user_is, leaves_end, deeds_end, ends_so}
use Rattle.qc_interp.proofs.Stepping.StepsLeave.{orphan_early, stopped_still, some_later, none_open}
use Rattle.std.specs.List.{list_all}
use Rattle.qc_interp.specs.Adding.{stays_in}
use Rattle.qc_interp.specs.Asking.{AllAsked}
use Rattle.qc_interp.proofs.Stepping.Asked.{NoOne, asked_made, asked_none, asked_wider, asked_trans}

orphaned : (of t : Name) (levels : ℕ) (how : Option How) → t ≡ above of levels → (levels ≡ 0 → ⊥) → (how ≡ Some (Abort (cause.Orphan t))) ⊎ WasAsked of how → (how ≡ asked_end of levels) ⊎ StopsBefore Reach.to_the_end [] of how
orphaned of t zero how named some h = absurd (some refl)
orphaned of t (suc levels) how named some (inl e) = inl (e ∙ ap (λ a. Some (Abort (cause.Orphan a))) named)
orphaned of t (suc levels) how named some (inr s) = inr (inl s)

asked_once : (of : Name) (past : Past) (how : Option How) → (how ≡ Some (Abort (cause.Asked of))) ⊎ WasAsked of how → (how ≡ asked_end of 0) ⊎ StopsBefore Reach.to_the_end past of how
asked_once of past how (inl is) = inl is
asked_once of past how (inr s) = inr (inl s)

orphan_unkilled : (of t : Name) (how : Option How) → (how ≡ Some (Abort (cause.Orphan t))) ⊎ WasAsked of how → WasKilled how → ⊥
orphan_unkilled of t how (inl is) h = subst WasKilled is h
orphan_unkilled of t how (inr s) h = unended_unkilled of how (inr s) h

module _ (c : Client) (of : Name) where
  -- an orphan after a step `abort`
  pub asked_orphan : (t : Name) (levels : ℕ) → t ≡ above of levels → (levels ≡ 0 → ⊥) → (before mid now : Past) (again : Bool) (rest : Plan) → Leaves c of before mid → AllAsked c before mid (λ by x. (by ≡ of) × (x ≡ t)) → deeds (mine c mid) of ≡ deeds (mine c before) of → Quit c of (Abort (cause.Orphan t)) mid now again → Ended c of before now (Plan.abort_then levels rest) (finish.Stopped again)
  asked_orphan t levels named some before mid now again rest leaves asked same_deeds quit = record {
    leaves = leaves_trans c of before mid now leaves quit.leaves;
    tried = quit.tried;
    ends = λ ours. ([], quit.deeds ∙ same_deeds ∙ sym (append-nil _), orphaned of t levels _ named some (quit.ended ours), asked_trans c before mid now _ (asked_wider _ _ (λ by x a. (a.0, a.1 ∙ named, orphan_unkilled of t _ (quit.ended ours))) c before mid asked) (asked_none c mid now _ quit.asked));
  }

  -- the run was cut off after a step `abort`
  pub asked_cut : (t : Name) (levels : ℕ) → t ≡ above of levels → (before mid now : Past) (rest : Plan) → Runs c of mid → Leaves c of before mid → AllAsked c before mid (λ by x. (by ≡ of) × (x ≡ t)) → deeds (mine c mid) of ≡ deeds (mine c before) of → Made c [] mid now → CutOff c of before now (Plan.abort_then levels rest)
  asked_cut t levels named before mid now rest runs leaves asked same_deeds made =
      let at = (runs_still c of mid now made runs).above of [] (sym (append-nil of)) runs.nonroot in
      record {
        leaves = leaves_trans c of before mid now leaves (leaves_cut c of mid now (leaves_still c of mid now made));
        unended = at.0;
        begins = λ ours. (
          [],
          ap (λ h. deeds h of) (still c of mid now made) ∙ same_deeds ∙ sym (append-nil _),
          inr (inl (running_unended (mine c now) of _ at.0 at.1)),
          asked_trans c before mid now _ (asked_wider _ _ (λ by x a. (a.0, a.1 ∙ named, unended_unkilled of _ at.0)) c before mid asked) (asked_none c mid now _ (asked_made c [] mid now NoOne made tt)),
        );
      }

  pub asked_itself : (levels : ℕ) (before now : Past) (again : Bool) (rest : Plan) → levels ≡ 0 → Quit c of (Abort (cause.Asked of)) before now again → Ended c of before now (Plan.abort_then levels rest) (finish.Stopped again)
  asked_itself zero before now again rest none quit = record {
    leaves = quit.leaves;
    tried = quit.tried;
    ends = λ ours. ([], quit.deeds ∙ sym (append-nil _), asked_once of (mine c now) _ (quit.ended ours), asked_none c before now _ quit.asked);
  }
  asked_itself (suc levels) before now again rest none quit = let z : ⊥ = omega (arith, none) in absurd z

  -- a step `abort` of an ancestor that had not ended
  module _ (t s : Name) (is : of ≡ t ++ s) (far : 0 < length s) (nonroot : 0 < length t) (before mid : Past) (m : Made c (by_client c (event.End t (Abort (cause.Asked of))) ∷ []) before mid) where
    now_is : mine c mid ≡ by_client c (event.End t (Abort (cause.Asked of))) ∷ mine c before
    now_is = made_is c _ before mid m

    shorter : length t < length of
    shorter = omega (arith, ap length is, length-append t s, far)

    deeds_asked : (p : Name) → deeds (mine c mid) p ≡ deeds (mine c before) p
    deeds_asked p = ap (λ h. deeds h p) now_is ∙ deeds_quiet p (by_client c (event.End t (Abort (cause.Asked of))) ∷ []) (mine c before) ((λ past. refl), tt)

    ready_asked : (p : Name) → is_ready (mine c mid) p ≡ is_ready (mine c before) p
    ready_asked p = one_ready c _ before mid m p refl

    unended_asked : (p : Name) → IsUnended p (end (mine c before) p) → IsUnended p (end (mine c mid) p)
    unended_asked p h = subst (λ x. IsUnended p (end x p)) (sym now_is) (by_test (same t p) refl (end (mine c before) p) h)
      where
        by_test : (b : Bool) → same t p ≡ b → (o : Option How) → IsUnended p o → IsUnended p (option_or o (if b then Some (Abort (cause.Asked of)) else None))
        by_test b so (Some how) x = x
        by_test false so None x = inl refl
        by_test true so None x = inr (ap not (other_length of p (λ l. omega (arith, l, ap length (same_is t p so), shorter))))

    pub leaves_asked : Leaves c of before mid
    leaves_asked = record { turns = λ ours turns alone. subst (λ h. InTurn h × Alone h of) (sym now_is) (act_turns (by_client c (event.End t (Abort (cause.Asked of)))) (mine c before) of of refl refl refl turns alone alone); later = made_later c _ before mid m; inside = ap (list_all (stays_in (scope c of))) m.made ∙ ap (λ b. b && true) (asks_stays (scope c of) t of c.number (in_or_upward c of t s is nonroot) (at_scope c of)); over = λ was r. over_later c before mid (made_later c _ before mid m) of (was (sym (ready_asked of) ∙ r)); above = λ p r so more. record { deeds = deeds_asked p; ready = ready_asked p; unended = unended_asked p } }

    pub asked_one : AllAsked c before mid (λ by x. (by ≡ of) × (x ≡ t))
    asked_one = asked_made c _ before mid _ m (inr (refl, refl), tt)

    pub runs_asked : Runs c of before → Runs c of mid
    runs_asked runs = record {
      legal = m.legal;
      user = subst (λ h. Started h of (λ b. IsOfSession c.session b.kind)) (sym m.grown) (started_still m.newer before of _ runs.user);
      seat = later_seat c before mid (made_later c _ before mid m) of c.number runs.seat;
      nonroot = runs.nonroot;
      below = runs.below;
      above = λ p r so more. (unended_asked p (runs.above p r so more).0, ready_asked p ∙ (runs.above p r so more).1);
      closed = λ ours.
          ap (find (λ x. is_none (end (mine c mid) x))) (same_children (mine c mid) (mine c before) of (deeds_asked of))
          ∙ none_open _ _ (children (mine c before) of) (λ x h. some_not_none _ (some_later c of before mid (made_later c _ before mid m) x (some_if_not_none _ h))) (runs.closed (ours_before c of before mid (made_later c _ before mid m) ours));
    }

    pub same_asked : deeds (mine c mid) of ≡ deeds (mine c before) of
    same_asked = deeds_asked of

    pub ended_asked : is_some (end mid t) ≡ true
    ended_asked = kept_some (λ (e : Entry). is_own c e.seat) _ mid (subst (λ h. is_some (end h t) ≡ true) (sym now_is) (by_old (end (mine c before) t) (end_in t (event.End t (Abort (cause.Asked of)))) (end_now t (event.End t (Abort (cause.Asked of))) (Abort (cause.Asked of)) refl)))
      where
        by_old : (o fresh : Option How) → fresh ≡ Some (Abort (cause.Asked of)) → is_some (option_or o fresh) ≡ true
        by_old None fresh so = ap is_some so
        by_old (Some how) fresh so = refl

  -- the ancestor so many levels up
  pub record Above (t : Name) (levels : ℕ) : Type 0 where
    pub named : t ≡ take (length of - levels) of
    pub rest : Name
    pub is : of ≡ t ++ rest
    pub far : 0 < length rest
    pub nonroot : 0 < length t
    pub is_ancestor : name.is_ancestor t of ≡ true
    pub apart : same t of ≡ false

  pub above_is : (t : Name) (levels len : ℕ) → len ≡ length of → t ≡ take (len - levels) of → (levels ≡ 0 → ⊥) → levels < length of → Above t levels
  above_is t levels len long named some within =
      let is : of ≡ t ++ drop (length of - levels) of = sym (take-append-drop (length of - levels) of) ∙ ap (λ x. x ++ drop (length of - levels) of) (sym at) in
      let l : length t + length (drop (length of - levels) of) ≡ length of = sym (ap length is ∙ length-append t (drop (length of - levels) of)) in
      let lt : length t ≡ length of - levels = ap length at ∙ Rattle.std.proofs.lemmas.List.length-take-le (length of - levels) of (omega arith) in
      record {
        named = at;
        rest = drop (length of - levels) of;
        is = is;
        far = omega (arith, l, lt, within, positive levels some);
        nonroot = omega (arith, lt, within);
        is_ancestor = ap (name.is_ancestor t) is ∙ is_ancestor-append t _;
        apart = other_length t of (λ same_length. omega (arith, same_length, lt, within, positive levels some));
      }
    where
      at : t ≡ take (length of - levels) of
      at = named ∙ ap (λ k. take (k - levels) of) long

      positive : (k : ℕ) → (k ≡ 0 → ⊥) → 0 < k
      positive zero h = absurd (h refl)
      positive (suc k) h = omega arith

  pub user_above : (now : Past) (t : Name) (levels : ℕ) → Runs c of now → Above t levels → Started now t (λ b. IsUser b.kind)
  user_above now t levels runs a = above_user now t a.rest (lawful now (legal_orderly c.setting now runs.legal)) a.nonroot (subst (λ n. Started now n (λ b. IsUser b.kind)) a.is (user_is c.session now of runs.user))

  -- an ancestor that could not be aborted, as it was ready
  pub ask_no : (t : Name) (levels : ℕ) (before now : Past) (why : TxNo) (rest : Plan) → Above t levels → Runs c of before → NotAborted c t (cause.Asked of) before now why → ((s : Short) → why ≡ tx_no.Short s → ⊥) → (why ≡ tx_no.Ended → ⊥) → Ended c of before now (Plan.abort_then levels rest) (finish.Stopped false)
  ask_no t levels before now (tx_no.Short s) rest a runs none n1 n2 = absurd (n1 s refl)
  ask_no t levels before now tx_no.Ended rest a runs none n1 n2 = absurd (n2 refl)
  ask_no t levels before now tx_no.Ready rest a runs none n1 n2 =
      let after = runs_still c of before now none.0 runs in
      record {
        leaves = leaves_still c of before now none.0;
        tried = unended_stopped of _ (after.above of [] (sym (append-nil of)) after.nonroot).0;
        ends = λ ours. absurd (not_ready c of now after ours t a.rest a.is a.nonroot none.1);
      }
  ask_no t levels before now (tx_no.Orphan x) rest a runs none n1 n2 = absurd none.1
  ask_no t levels before now (tx_no.Conflict copy holder) rest a runs none n1 n2 = absurd none
  ask_no t levels before now (tx_no.NoQuorum lack) rest a runs none n1 n2 = absurd none
  ask_no t levels before now tx_no.Last rest a runs none n1 n2 = absurd none
  ask_no t levels before now (tx_no.ChildrenOpen x) rest a runs none n1 n2 = absurd none
  ask_no t levels before now tx_no.Ledger rest a runs none n1 n2 = absurd none

  -- whatever a refused abort tells, nothing was made
  pub not_aborted_made : (t : Name) (x : Rattle.qc_event.specs.declared.event.Cause.Cause) (before now : Past) (why : TxNo) → NotAborted c t x before now why → Made c [] before now
  not_aborted_made t x before now (tx_no.Short s) none = none.0
  not_aborted_made t x before now tx_no.Ended none = none.0
  not_aborted_made t x before now tx_no.Ready none = none.0
  not_aborted_made t x before now (tx_no.Orphan a) none = none.0
  not_aborted_made t x before now (tx_no.Conflict copy holder) none = absurd none
  not_aborted_made t x before now (tx_no.NoQuorum lack) none = absurd none
  not_aborted_made t x before now tx_no.Last none = absurd none
  not_aborted_made t x before now (tx_no.ChildrenOpen child) none = absurd none
  not_aborted_made t x before now tx_no.Ledger none = absurd none

  -- what it found of an ancestor that had ended
  pub ask_ended : (t : Name) (before now : Past) (why : TxNo) → why ≡ tx_no.Ended → NotAborted c t (cause.Asked of) before now why → Made c [] before now × (is_some (end now t) ≡ true)
  ask_ended t before now why is none = by_no (subst (NotAborted c t (cause.Asked of) before now) is none)
    where
      by_no : NotAborted c t (cause.Asked of) before now tx_no.Ended → Made c [] before now × (is_some (end now t) ≡ true)
      by_no none = (
        none.0,
        elim none.1 [
          | inl some ↦ some
          | inr x ↦ absurd x
        ],
      )

  -- COMMITS

  module _ (before now : Past) (runs : Runs c of before) (m : Made c (by_client c (event.Ready of) ∷ []) before now) where
    ready_now : mine c now ≡ by_client c (event.Ready of) ∷ mine c before
    ready_now = made_is c _ before now m

    deeds_ready : (p : Name) → deeds (mine c now) p ≡ deeds (mine c before) p
    deeds_ready p = ap (λ h. deeds h p) ready_now ∙ deeds_quiet p (by_client c (event.Ready of) ∷ []) (mine c before) ((λ past. refl), tt)

    end_ready : (p : Name) → end (mine c now) p ≡ end (mine c before) p
    end_ready p = one_end c _ before now m p refl

    unended_ready : IsUnended of (end (mine c now) of)
    unended_ready = subst (λ o. IsUnended of o) (sym (end_ready of)) (runs.above of [] (sym (append-nil of)) runs.nonroot).0

    ready_is : is_ready (mine c now) of ≡ true
    ready_is = ap (λ h. is_ready h of) ready_now ∙ by_old (Rattle.qc_event.specs.History.earliest (λ (e : Entry). ready_in of e.event) (mine c before)) (same of of) (same_itself of)
      where
        by_old : (o : Option (Unit {0})) (b : Bool) → b ≡ true → is_some (option_or o (if b then Some tt else None)) ≡ true
        by_old None b so = ap (λ x. is_some (if x then Some tt else None)) so
        by_old (Some y) b so = refl

    done_ready : FollowsPlan c.session (mine c now) of Plan.done [] (end (mine c now) of)
    done_ready = by_end (end (mine c now) of) unended_ready
      where
        by_end : (o : Option How) → IsUnended of o → FollowsPlan c.session (mine c now) of Plan.done [] o
        by_end o (inl none) = inl (subst (λ x. Rattle.qc_interp.specs.Follows.Commits (mine c now) of x) (sym none) ready_is)
        by_end o (inr s) = inr (asked_early of o s)

    leaves_ready : (reach : Reach) → AtTheEnd reach (is_over now of ≡ true) → LeavesAt reach c of before now
    leaves_ready reach over = record {
      turns = λ ours turns alone.
          let t = subst (λ h. InTurn h × Alone h of) (sym ready_now) (act_turns (by_client c (event.Ready of)) (mine c before) of of refl refl refl turns alone alone) in
          (t.0, at_any reach _ t.1);
      later = made_later c _ before now m;
      inside = ap (list_all (stays_in (scope c of))) m.made ∙ one_stays (scope c of) of (by_client c (event.Ready of)) refl refl (at_scope c of);
      over = at_the_end reach _ _ (λ so was r. so) over;
      above = λ p r is far.
          record {
            deeds = deeds_ready p;
            ready = one_ready c _ before now m p (if_not (same of p) (Some tt) (other_length of p (λ l. omega (arith, l, far, ap length is, length-append p r))));
            unended = subst (λ o. IsUnended p o) (sym (end_ready p));
          };
    }

    -- who becomes ready has not ended
    none_ready : end (mine c now) of ≡ None
    none_ready =
        let at = came_after c [] (by_client c (event.Ready of)) [] before now m in
        let keeps : KeepsOrder (at.mid ++ before) (event.Ready of) = (legal_orderly c.setting (by_client c (event.Ready of) ∷ (at.mid ++ before)) at.legal).1 in
        end_ready of ∙ absent c _ at.mid before keeps.is_open.not_ended

    ready_made : (to : Finish) → CameTo to None → is_over now of ≡ true → Ended c of before now Plan.done to
    ready_made to came over = record {
      leaves = leaves_ready Reach.to_the_end over;
      tried = subst (CameTo to) (sym none_ready) came;
      ends = λ ours. ([], deeds_ready of ∙ sym (append-nil _), done_ready, asked_made c _ before now _ m (tt, tt));
    }

    -- a top was made ready, and the run was cut off
    ready_cut : CutOff c of before now Plan.done
    ready_cut = record {
      leaves = leaves_ready Reach.cut_off tt;
      unended = unended_ready;
      begins = λ ours. ([], deeds_ready of ∙ sym (append-nil _), follows_runs Reach.cut_off c.session (mine c now) of Plan.done [] _ done_ready, asked_made c _ before now _ m (tt, tt));
    }

  -- a commit was refused for want of memory or room
  pub commit_short : (before now : Past) (why : TxNo) (s : Short) → why ≡ tx_no.Short s → Runs c of before → NotCommitted c of before now why → CutOff c of before now Plan.done
  commit_short before now why s is runs none = either (subst (NotCommitted c of before now) is none).0
    where
      either : Made c [] before now ⊎ MadeReady c of before now → CutOff c of before now Plan.done
      either (inl m) = cut_still c of before now runs m Plan.done
      either (inr ready) = ready_cut before now runs ready.1

  end_made : (before now : Past) → Runs c of before → Made c (by_client c (event.End of (Commit answer.Nothing)) ∷ []) before now → Ended c of before now Plan.done finish.Committed
  end_made before now runs m = record {
    leaves = leaves_end c of (Commit answer.Nothing) before now m (of, refl, itself of);
    tried = subst (CameTo finish.Committed) (sym (ends_so c of (Commit answer.Nothing) before now m)) tt;
    ends = λ ours. ([], deeds_end c of (Commit answer.Nothing) before now m ∙ sym (append-nil _), inl (subst (λ x. Rattle.qc_interp.specs.Follows.Commits (mine c now) of x) (sym (ends_so c of (Commit answer.Nothing) before now m)) tt), asked_made c _ before now _ m (tt, tt));
  }

  pub commit_ledger : (before now : Past) (why : TxNo) → why ≡ tx_no.Ledger → Runs c of before → NotCommitted c of before now why → Ended c of before now Plan.done (finish.Stopped false)
  commit_ledger before now why is runs none = let x = subst (NotCommitted c of before now) is none in ready_made before now runs x.1 (finish.Stopped false) refl x.2

  pub commit_stops : (before now : Past) (why : TxNo) → Runs c of before → NotCommitted c of before now why → ((s : Short) → why ≡ tx_no.Short s → ⊥) → (why ≡ tx_no.Ledger → ⊥) → Runs c of now × WhyStop c now of why × Made c [] before now
  commit_stops before now (tx_no.Short s) runs none n1 n2 = absurd (n1 s refl)
  commit_stops before now tx_no.Ledger runs none n1 n2 = absurd (n2 refl)
  commit_stops before now tx_no.Ended runs none n1 n2 = (runs_still c of before now none.0 runs, none.1, none.0)
  commit_stops before now tx_no.Ready runs none n1 n2 = (runs_still c of before now none.0 runs, none.1, none.0)
  commit_stops before now (tx_no.Orphan a) runs none n1 n2 = (runs_still c of before now none.0 runs, none.1, none.0)
  commit_stops before now (tx_no.ChildrenOpen a) runs none n1 n2 = (runs_still c of before now none.0 runs, none.1, none.0)
  commit_stops before now (tx_no.Conflict copy holder) runs none n1 n2 = absurd none.1
  commit_stops before now (tx_no.NoQuorum lack) runs none n1 n2 = absurd none.1
  commit_stops before now tx_no.Last runs none n1 n2 = absurd none.1

-- a commit that was refused, so that the transaction stops
pub commit_over : (c : Client) (of : Name) (before mid now : Past) (why : TxNo) (again : Bool) → Runs c of before → NotCommitted c of before mid why → ((s : Short) → why ≡ tx_no.Short s → ⊥) → (why ≡ tx_no.Ledger → ⊥) → Stopped c of why mid now again → Ended c of before now Plan.done (finish.Stopped again)
commit_over c of before mid now (tx_no.Short s) again runs none n1 n2 stopped = absurd (n1 s refl)
commit_over c of before mid now tx_no.Ledger again runs none n1 n2 stopped = absurd (n2 refl)
commit_over c of before mid now tx_no.Ended again runs none n1 n2 stopped = stopped_still c of before mid now tx_no.Ended again Plan.done none.0 stopped (λ s. inr (asked_early of _ s))
commit_over c of before mid now tx_no.Ready again runs none n1 n2 stopped = stopped_still c of before mid now tx_no.Ready again Plan.done none.0 stopped (λ s. inr (asked_early of _ s))
commit_over c of before mid now (tx_no.Orphan a) again runs none n1 n2 stopped = stopped_still c of before mid now (tx_no.Orphan a) again Plan.done none.0 stopped (λ s. inr (orphan_early c of a _ s))
commit_over c of before mid now (tx_no.ChildrenOpen a) again runs none n1 n2 stopped = stopped_still c of before mid now (tx_no.ChildrenOpen a) again Plan.done none.0 stopped (λ s. inr (asked_early of _ s))
commit_over c of before mid now (tx_no.Conflict copy holder) again runs none n1 n2 stopped = absurd none.1
commit_over c of before mid now (tx_no.NoQuorum lack) again runs none n1 n2 stopped = absurd none.1
commit_over c of before mid now tx_no.Last again runs none n1 n2 stopped = absurd none.1

pub commit_ok : (c : Client) (of : Name) (before now : Past) → Runs c of before → Committed c of before now → Ended c of before now Plan.done finish.Committed
commit_ok c [] before now runs m = end_made c [] before now runs m
commit_ok c (x ∷ []) before now runs m = ready_made c (x ∷ []) before now runs m.0 finish.Committed tt (over_ended now (x ∷ []) (ap is_some m.1))
commit_ok c (x ∷ y ∷ of) before now runs m = end_made c (x ∷ y ∷ of) before now runs m
