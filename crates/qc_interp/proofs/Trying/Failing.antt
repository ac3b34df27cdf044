-- What a transaction does where the last try of a child failed.
use Rattle.std.proofs.Common.{◌≡◌, inl, inr, ℕ, Bool, List, true, false, [], ◌∷◌, ◌++◌, refl, sym, ap, ◌∙◌, subst, append-nil, append_assoc}
use mathlib.Core.Bool.{true≢false}
use Rattle.std.specs.Prelude.{Option, None, Some, MatchOption, not}
use Rattle.std.specs.Option.{option_or}
use Rattle.qc_event.specs.declared.event.Cause.{Cause}
use Rattle.qc_event.specs.declared.event.Cause.TheVariants as cause
use Rattle.qc_event.specs.declared.event.Entry.{Entry}
use Rattle.qc_event.specs.declared.event.Event.TheVariants as event
use Rattle.qc_event.specs.declared.event.How.{How}
use Rattle.qc_event.specs.declared.event.How.TheVariants.{Commit, Abort}
use Rattle.qc_event.specs.declared.event.Kind.{Kind}
use Rattle.qc_event.specs.declared.event.Kind.TheVariants as kind
use Rattle.qc_event.specs.Aborts.{Licensed}
use Rattle.qc_event.specs.Base.{Setting}
use Rattle.qc_event.specs.Dead.{dead, outcome_of, is_aborted}
use Rattle.qc_event.specs.History.{Past, Name, Begun, start, end, same}
use Rattle.qc_event.specs.Legal.{Legal, MayHappen, MayEnd}
use Rattle.qc_event.specs.Standing.{IsAbort, IsOrphanOf}
use Rattle.qc_event.proofs.Outcomes.{abort_or_alive}
use Rattle.qc_event.proofs.Absent.{same_itself}
use Rattle.qc_event.proofs.LastNumber.{child_last, rest_of, ends_in, same_last}
use Rattle.qc_event.proofs.Lineage.{alive_above, alive_not_aborted}
use Rattle.qc_event.proofs.OneEntry.{end_step}
use Rattle.qc_event.specs.declared.short.Short.{Short}
use Rattle.qc_script.specs.Calls.{by_client, NotAborted}
use Rattle.qc_script.specs.Client.{Client, mine, Made, IsLater, AreOurs}
use Rattle.qc_script.specs.Plan.{Plan, Numbered}
use Rattle.qc_script.specs.declared.tx.TxNo.{TxNo}
use Rattle.qc_script.specs.declared.tx.TxNo.TheVariants as tx_no
use Rattle.qc_interp.specs.Deeds.{Deed, deeds}
use Rattle.qc_interp.specs.Follows.{WasAsked, GoesOnAfter, AfterTries, is_of_orphan, WasOrphan, FollowsPlan}
use Rattle.qc_interp.specs.Asking.{DoesAfter}
use Rattle.qc_interp.specs.Reach.{Reach}
use Rattle.qc_interp.specs.Running.{Runs, CameTo, Ended, CutOff, WentOn, HasFailed, QuitFor, Stopped, child_step, Failed}
use Rattle.qc_interp.specs.declared.stops.Finish.TheVariants as finish
use Rattle.std.proofs.lemmas.Bool.{false_from_ne_true}
use Rattle.qc_interp.proofs.Stepping.Asked.{NoOne, asked_made, asked_none, asked_wider, asked_trans}
use Rattle.qc_interp.proofs.Stepping.Stopping.{asked_early, unended_stopped, running_runs}
use Rattle.qc_interp.proofs.Stepping.Ending.{not_ready, ended_early, leaves_trans, leaves_cut, still, leaves_still, runs_still, leaves_end, deeds_end, ends_so}
use Rattle.qc_interp.proofs.Scopes.Growth.{made_later, ours_before}
use Rattle.qc_interp.proofs.Branching.Joined.{joined_itself}
use Rattle.qc_interp.proofs.Following.Seen.{own_once}
use Rattle.qc_interp.proofs.Stepping.StepsLeave.{end_later, orphan_early}
use Rattle.qc_interp.proofs.Trying.TriesLead.{cut_behind}
use Rattle.qc_interp.proofs.Following.Turning.{itself}

-- AN ORPHAN HAS AN ABORTED ANCESTOR

orphan_stays : (e : Entry) (past : Past) (n a : Name) → IsOrphanOf past n a → IsOrphanOf (e ∷ past) n a
orphan_stays e past n a is = record { above = is.above; not_itself = is.not_itself; aborted = by_old (end past a) (Rattle.qc_event.specs.History.end_in a e.event) is.aborted }
  where
    by_old : (o fresh : Option How) → MatchOption o ⊥ IsAbort → MatchOption (option_or o fresh) ⊥ IsAbort
    by_old None fresh h = absurd h
    by_old (Some how) fresh h = h

licensed_orphan : (setting : Setting) (past : Past) (seat : ℕ) (n a : Name) (b : Begun) (k : Kind) → Licensed setting past seat n b k (cause.Orphan a) → IsOrphanOf past n a
licensed_orphan setting past seat n a b (kind.User session body) h = h
licensed_orphan setting past seat n a b kind.Access h = h.0
licensed_orphan setting past seat n a b (kind.Read rec) h = h.0
licensed_orphan setting past seat n a b (kind.Write rec value) h = h.0
licensed_orphan setting past seat n a b (kind.Reconf rec config) h = h.0

orphan_above : (setting : Setting) (past : Past) (n a : Name) → Legal setting past → end past n ≡ Some (Abort (cause.Orphan a)) → IsOrphanOf past n a
orphan_above setting [] n a legal is = absurd cc
orphan_above setting (e ∷ past) n a legal is = orphan_stays e past n a (elim (end_step e past n (Abort (cause.Orphan a)) is) [
  | inl old ↦ orphan_above setting past n a legal.0 old
  | inr new ↦ by_start (start past n) (subst (MayHappen setting past e.seat) new.1 legal.1)
])
  where
    by_start : (o : Option Begun) → MatchOption o ⊥ (MayEnd setting past e.seat n (Abort (cause.Orphan a))) → IsOrphanOf past n a
    by_start None h = absurd h
    by_start (Some b) h = licensed_orphan setting past e.seat n a b b.kind h.licensed

-- the parent of an orphan is aborted, or dead
alive_no_orphan : (past : Past) (p n a : Name) → Rattle.qc_event.specs.History.is_child p n ≡ true → dead past p ≡ None → IsOrphanOf past n a → ⊥
alive_no_orphan past p n a child alive is =
    let l = child_last p n child in
    let r = rest_of a n is.above in
    elim (ends_in r.0) [
      | inl none ↦
          let at : n ≡ a = r.1 ∙ ap (λ x. a ++ x) none ∙ append-nil a in
          true≢false (sym (same_itself a) ∙ ap (λ x. same a x) (sym at) ∙ is_same is.not_itself)
      | inr e ↦
          let up : p ≡ a ++ e.0 = (same_last p (a ++ e.0) l.0 e.1 (sym l.1 ∙ r.1 ∙ ap (λ x. a ++ x) e.2 ∙ sym (append_assoc a e.0 (e.1 ∷ [])))).0 in
          abort_or_alive (end past a) is.aborted (alive_not_aborted past a (alive_above past a e.0 (subst (λ x. dead past x ≡ None) up alive)))
    ]
  where
    is_same : not (same a n) ≡ true → same a n ≡ false
    is_same h = by_test (same a n) h
      where
        by_test : (b : Bool) → not b ≡ true → b ≡ false
        by_test true t = absurd (true≢false (sym t))
        by_test false t = refl

module _ (c : Client) (of child : Name) where
  -- a child that failed is aborted ever after
  pub still_aborted : (before now : Past) → IsLater c before now → HasFailed c of before child → AreOurs c of now → (x : Cause) × (end (mine c now) child ≡ Some (Abort x))
  still_aborted before now later failed ours = by_end (end (mine c before) child) refl (failed.aborted (ours_before c of before now later ours))
    where
      by_end : (o : Option How) → end (mine c before) child ≡ o → MatchOption o ⊥ IsAbort → (x : Cause) × (end (mine c now) child ≡ Some (Abort x))
      by_end None at h = absurd h
      by_end (Some (Commit given)) at h = absurd h
      by_end (Some (Abort x)) at h = (x, end_later c of before now later child (Abort x) at)

  -- THE TRANSACTION IS ABORTED FOR IT

  -- or it has stopped
  pub behind_failed : (mid now : Past) (again : Bool) (rest : Plan) → HasFailed c of mid child → QuitFor c of child mid now again → AreOurs c of now → GoesOnAfter Reach.to_the_end (mine c now) of child (end (mine c now) child) (FollowsPlan c.session (mine c now) of rest [] (end (mine c now) of)) [] (end (mine c now) of)
  behind_failed mid now again rest failed quit ours =
      let was = still_aborted mid now quit.leaves.later failed ours in
      subst (λ o. GoesOnAfter Reach.to_the_end (mine c now) of child o (FollowsPlan c.session (mine c now) of rest [] (end (mine c now) of)) [] (end (mine c now) of)) (sym was.1) (
        refl,
        elim (quit.ended ours) [
          | inl is ↦ inl (false_from_ne_true (is_of_orphan was.0) (λ h. is.0 (subst WasOrphan (sym was.1) h)), is.1)
          | inr early ↦ inr early
        ],
      )

  pub quit_for_ok : (before now : Past) → Runs c of before → HasFailed c of before child → dead before of ≡ None → Made c (by_client c (event.End of (Abort (cause.Child child))) ∷ []) before now → QuitFor c of child before now true
  quit_for_ok before now runs failed alive m = record {
    leaves = leaves_end c of (Abort (cause.Child child)) before now m (of, refl, itself of);
    tried = subst (CameTo (finish.Stopped true)) (sym (ends_so c of (Abort (cause.Child child)) before now m)) refl;
    deeds = deeds_end c of (Abort (cause.Child child)) before now m;
    asked = asked_made c _ before now NoOne m (tt, tt);
    ended = λ ours. inl (no_orphan ours, ends_so c of (Abort (cause.Child child)) before now m);
  }
    where
      later : IsLater c before now
      later = made_later c _ before now m

      was_orphan : (x : Cause) → end (mine c before) child ≡ Some (Abort x) → is_of_orphan x ≡ true → ⊥
      was_orphan (cause.Orphan a) at h = alive_no_orphan before of child a failed.is_one alive (orphan_above c.setting before child a runs.legal (own_once c before child (Abort (cause.Orphan a)) runs.legal at))
      was_orphan (cause.Asked by) at h = true≢false (sym h)
      was_orphan (cause.Conflict copy holder) at h = true≢false (sym h)
      was_orphan (cause.NoQuorum lack) at h = true≢false (sym h)
      was_orphan cause.Last at h = true≢false (sym h)
      was_orphan cause.Killed at h = true≢false (sym h)
      was_orphan (cause.Child y) at h = true≢false (sym h)
      was_orphan cause.Missed at h = true≢false (sym h)

      no_orphan : AreOurs c of now → WasOrphan (end (mine c now) child) → ⊥
      no_orphan ours h =
          let was = still_aborted before before (Rattle.qc_interp.proofs.Scopes.Growth.later_itself c before runs.legal) failed (ours_before c of before now later ours) in
          was_orphan was.0 was.1 (subst WasOrphan (end_later c of before now later child (Abort was.0) was.1) h)

  quit_still : (before now : Past) → Runs c of before → Made c [] before now → (Runs c of now → AreOurs c of now → WasAsked of (end (mine c now) of)) → QuitFor c of child before now false
  quit_still before now runs m early =
      let after = runs_still c of before now m runs in
      record {
        leaves = leaves_still c of before now m;
        tried = unended_stopped of _ (after.above of [] (sym (append-nil of)) after.nonroot).0;
        deeds = ap (λ h. deeds h of) (still c of before now m);
        asked = asked_made c [] before now NoOne m tt;
        ended = λ ours. inr (asked_early of _ (early after ours));
      }

  pub quit_for_no : (before now : Past) (why : TxNo) → Runs c of before → HasFailed c of before child → NotAborted c of (cause.Child child) before now why → ((s : Short) → why ≡ tx_no.Short s → ⊥) → ((a : Name) → why ≡ tx_no.Orphan a → ⊥) → QuitFor c of child before now false
  quit_for_no before now (tx_no.Short s) runs failed none n1 n3 = absurd (n1 s refl)
  quit_for_no before now (tx_no.Orphan a) runs failed none n1 n3 = absurd (n3 a refl)
  quit_for_no before now tx_no.Ended runs failed none n1 n3 = quit_still before now runs none.0 (λ after ours. elim none.1 [
    | inl some ↦ ended_early c of now after ours some
    | inr not_aborted ↦
        let was = still_aborted before now (made_later c [] before now none.0) failed ours in
        let seen = own_once c now child (Abort was.0) after.legal was.1 in
        absurd (true≢false (sym (ap (λ o. is_aborted (outcome_of o)) seen) ∙ not_aborted))
  ])
  quit_for_no before now tx_no.Ready runs failed none n1 n3 = quit_still before now runs none.0 (λ after ours. absurd (not_ready c of now after ours of [] (sym (append-nil of)) after.nonroot none.1))
  quit_for_no before now (tx_no.Conflict copy holder) runs failed none n1 n3 = absurd none
  quit_for_no before now (tx_no.NoQuorum lack) runs failed none n1 n3 = absurd none
  quit_for_no before now tx_no.Last runs failed none n1 n3 = absurd none
  quit_for_no before now (tx_no.ChildrenOpen y) runs failed none n1 n3 = absurd none
  quit_for_no before now tx_no.Ledger runs failed none n1 n3 = absurd none

  -- it was dead, and stopped as an orphan
  pub quit_for_dead : (before mid now : Past) (a : Name) (again : Bool) → Made c [] before mid → Stopped c of (tx_no.Orphan a) mid now again → QuitFor c of child before now again
  quit_for_dead before mid now a again m stopped = record {
    leaves = leaves_trans c of before mid now (leaves_still c of before mid m) stopped.leaves;
    tried = stopped.tried;
    deeds = stopped.deeds ∙ ap (λ h. deeds h of) (still c of before mid m);
    asked = asked_trans c before mid now NoOne (asked_made c [] before mid NoOne m tt) stopped.asked;
    ended = λ ours. inr (orphan_early c of a _ (stopped.ended ours));
  }

-- BEHIND THE LAST TRY

after_any : (reach : Reach) (past : Past) (n child : Name) (must : Bool) (Rest : Type 0) (further : List Deed) (how : Option How) → must ≡ false → Rest → AfterTries reach past n (Some (Deed.child child)) must Rest further how
after_any reach past n child must Rest further how is h = subst (λ b. AfterTries reach past n (Some (Deed.child child)) b Rest further how) (sym is) h

does_any : (past : Past) (child : Name) (must : Bool) (Does : Type 0) → must ≡ false → Does → DoesAfter past (Some (Deed.child child)) must Does
does_any past child must Does is h = subst (λ b. DoesAfter past (Some (Deed.child child)) b Does) (sym is) h

module _ (c : Client) (of : Name) (body : Numbered) (before mid : Past) (last : Name) (f : Failed c of before mid body last) where
  -- the transaction goes on, where the child need not commit
  pub failed_on : body.must ≡ false → WentOn c of before mid (child_step body)
  failed_on is = record {
    leaves = f.leaves;
    runs = f.runs;
    follows = λ reach d x j later rest ends. f.follows reach d x j later rest (λ ours.
        let e = ends ours in (
          e.0,
          e.1,
          after_any reach (mine d x) of last body.must _ e.0 (end (mine d x) of) is e.2,
          asked_wider _ _ (λ by t a. does_any (mine d x) last body.must _ is a) d mid x e.3,
        ));
  }

  module _ (now : Past) where
    -- it was aborted for the child, or stopped
    pub failed_quit : (again : Bool) (rest : Plan) → body.must ≡ true → QuitFor c of last mid now again → Ended c of before now (child_step body rest) (finish.Stopped again)
    failed_quit again rest must quit = record {
      leaves = leaves_trans c of before mid now f.leaves quit.leaves;
      tried = quit.tried;
      ends = f.follows Reach.to_the_end c now (joined_itself c mid) quit.leaves.later rest (λ ours. (
        [],
        quit.deeds ∙ sym (append-nil _),
        subst (λ b. AfterTries Reach.to_the_end (mine c now) of (Some (Deed.child last)) b (FollowsPlan c.session (mine c now) of rest [] (end (mine c now) of)) [] (end (mine c now) of)) (sym must) (behind_failed c of last mid now again rest f.failed quit ours),
        asked_none c mid now _ quit.asked,
      ));
    }

    -- the run was cut off there
    pub failed_cut : (rest : Plan) → Made c [] mid now → CutOff c of before now (child_step body rest)
    failed_cut rest m =
        let at = (runs_still c of mid now m f.runs).above of [] (sym (append-nil of)) f.runs.nonroot in
        record {
          leaves = leaves_trans c of before mid now f.leaves (leaves_cut c of mid now (leaves_still c of mid now m));
          unended = at.0;
          begins = f.follows Reach.cut_off c now (joined_itself c mid) (made_later c [] mid now m) rest (λ ours. (
            [],
            ap (λ h. deeds h of) (still c of mid now m) ∙ sym (append-nil _),
            cut_behind (mine c now) of last body.must _ (end (mine c now) of) at.0 at.1 (running_runs c.session (mine c now) of _ at.0 at.1 rest),
            asked_none c mid now _ (asked_made c [] mid now NoOne m tt),
          ));
        }
