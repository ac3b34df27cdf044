-- What is left of the tries of a child after some of them.
use Rattle.std.proofs.Common.{◌≡◌, ℕ, suc, Bool, true, false, [], ◌∷◌, ◌++◌, refl, sym, ap, ◌∙◌, subst, append-nil}
use Rattle.std.specs.Prelude.{Option, None, Some, is_some}
use Rattle.qc_event.specs.History.{Past, Name, end}
use Rattle.qc_event.specs.declared.short.Short.{Short}
use Rattle.qc_script.specs.Calls.{WasRefused}
use Rattle.qc_script.specs.Client.{Client, HasJoined, mine, Made, AreOurs}
use Rattle.qc_interp.specs.Deeds.{Deed, deeds}
use Rattle.qc_interp.specs.Follows.{StopsEarly}
use Rattle.qc_interp.specs.Reach.{Reach}
use Rattle.qc_script.specs.Plan.{Plan, Numbered}
use Rattle.qc_interp.specs.Running.{Runs, Leaves, WhyStop, StopsBy, Stopped, CameTo, Ended, CutOff, WentOn, HasFailed, child_step, FrontTries, Failed}
use Rattle.qc_interp.specs.declared.stops.Finish.{Finish}
use Rattle.qc_interp.specs.declared.stops.Finish.TheVariants as finish
use Rattle.qc_script.specs.declared.tx.TxNo.{TxNo}
use Rattle.qc_script.specs.declared.tx.TxNo.TheVariants as tx_no
use Rattle.qc_interp.proofs.Scopes.Growth.{made_later, later_trans}
use Rattle.qc_interp.proofs.Stepping.Stopping.{running_stops}
use Rattle.qc_interp.proofs.Stepping.Ending.{leaves_trans, leaves_cut, still, leaves_still, runs_still}
use Rattle.qc_interp.proofs.Trying.TriesAlike.{IfAny}
use Rattle.qc_interp.proofs.Stepping.Asked.{NoOne, asked_made, asked_none, asked_trans}
use Rattle.qc_interp.proofs.Trying.OneTry.{more_try}
use Rattle.qc_interp.proofs.Branching.Joined.{joined_itself, joined_before, joined_chain, joined_since, joined_runs, joined_leaves, joined_failed, by_joined, more_mine, more_runs, more_leaves, ours_back, both}
use Rattle.qc_interp.proofs.Trying.Tried.{Tried, CutTry}
use Rattle.qc_interp.proofs.Trying.TriesLead.{try_again, try_last, try_through, try_cut, has_failed}

-- so many tries are left behind this one, which failed
pub record TriesLeft (c : Client) (of : Name) (body : Numbered) (before now : Past) (last : Option Name) (left : ℕ) : Type 0 where
  pub leaves : Leaves c of before now
  pub runs : Runs c of now
  pub failed : IfAny (HasFailed c of now) last
  pub front : FrontTries c of before now body last left

-- A try is the same as the client merges branches, and as many are left.
module _ (c d : Client) (of : Name) (body : Numbered) (before now : Past) (j : HasJoined c now d) where
  tried_joined : (child : Name) (to : Finish) → Tried c of child body before now to → Tried d of child body before now to
  tried_joined child to t = by_joined (λ y. Tried y of child body before now to) c d now j (λ kin all.
      let same = more_mine c kin now all in
      let back = ours_back c kin now all of in
      record {
        leaves = more_leaves c kin Reach.to_the_end of before now t.leaves all;
        runs = more_runs c kin now all of t.runs;
        is_one = t.is_one;
        user = t.user;
        seat = t.seat;
        more = both c kin before now t.leaves.later all (λ x y. deeds y of ≡ deeds x of ++ Deed.child child ∷ []) t.more;
        one = more_try c kin before now t.leaves.later all Reach.to_the_end child body (AreOurs c of now) (AreOurs (record c { kin = kin }) of now) back t.one;
        tried = subst (λ h. CameTo to (end h child)) (sym same) t.tried;
        ended = λ ours. ap (λ h. is_some (end h child)) same ∙ t.ended (back ours);
      })

  pub tries_joined : (last : Option Name) (left : ℕ) → TriesLeft c of body before now last left → TriesLeft d of body before now last left
  tries_joined last left l =
      let runs = joined_runs c d now j of l.runs in
      record {
        leaves = joined_leaves c d now j Reach.to_the_end of before l.leaves;
        runs = runs;
        failed = any_failed last l.failed;
        front = λ reach e x further. l.front reach e x (joined_chain c d now j e runs.legal further);
      }
    where
      any_failed : (last : Option Name) → IfAny (HasFailed c of now) last → IfAny (HasFailed d of now) last
      any_failed None h = h
      any_failed (Some child) h = joined_failed c d now j of child h

module _ (c : Client) (of : Name) (body : Numbered) where
  pub none_tried : (now : Past) → Runs c of now → TriesLeft c of body now now None body.tries
  none_tried now runs = record { leaves = Rattle.qc_interp.proofs.Stepping.Ending.leaves_itself c of now runs.legal; runs = runs; failed = tt; front = λ reach d x j later rest ends. ends }

  pub tried_more : (before now next : Past) (last : Option Name) (left : ℕ) (child : Name) → TriesLeft c of body before now last (suc left) → Tried c of child body now next (finish.Stopped true) → TriesLeft c of body before next (Some child) left
  tried_more before now next last left child l t = record {
    leaves = leaves_trans c of before now next l.leaves t.leaves;
    runs = t.runs;
    failed = has_failed c of child body now next (finish.Stopped true) t true refl;
    front = λ reach d x j later rest ends.
        l.front reach d x (joined_before c d now next t.leaves.later j) (joined_since c d next j now x t.leaves.later later) rest
        (try_again d of child body now next (finish.Stopped true) (tried_joined c d of body now next j child (finish.Stopped true) t) refl reach x later last left rest ends);
  }

  -- the last try failed
  pub tried_failed : (before now next : Past) (last : Option Name) (left : ℕ) (child : Name) → TriesLeft c of body before now last (suc left) → Tried c of child body now next (finish.Stopped false) → Failed c of before next body child
  tried_failed before now next last left child l t = record {
    leaves = leaves_trans c of before now next l.leaves t.leaves;
    runs = t.runs;
    failed = has_failed c of child body now next (finish.Stopped false) t false refl;
    follows = λ reach d x j later rest ends.
        l.front reach d x (joined_before c d now next t.leaves.later j) (joined_since c d next j now x t.leaves.later later) rest
        (try_last d of child body now next (finish.Stopped false) (tried_joined c d of body now next j child (finish.Stopped false) t) refl reach x later last left rest ends);
  }

  -- a try committed
  pub tried_out : (before now next : Past) (last : Option Name) (left : ℕ) (child : Name) → TriesLeft c of body before now last (suc left) → Tried c of child body now next finish.Committed → WentOn c of before next (child_step body)
  tried_out before now next last left child l t = record {
    leaves = leaves_trans c of before now next l.leaves t.leaves;
    runs = t.runs;
    follows = λ reach d x j later rest ends.
        let same = tried_joined c d of body now next j child finish.Committed t in
        l.front reach d x (joined_before c d now next t.leaves.later j) (joined_since c d next j now x t.leaves.later later) rest
        (try_last d of child body now next finish.Committed same refl reach x later last left rest (try_through d of child body now next finish.Committed same refl reach x later rest ends));
  }

  -- no try is left
  pub all_failed : (before now : Past) (last : Name) → TriesLeft c of body before now (Some last) 0 → Failed c of before now body last
  all_failed before now last l = record { leaves = l.leaves; runs = l.runs; failed = l.failed; follows = l.front }

  pub none_to_begin : (before now : Past) → TriesLeft c of body before now None 0 → WentOn c of before now (child_step body)
  none_to_begin before now l = record { leaves = l.leaves; runs = l.runs; follows = l.front }

  -- a try was not begun, and the parent has stopped
  pub not_begun : (before now mid next : Past) (last : Option Name) (left : ℕ) (why : TxNo) (again : Bool) (rest : Plan) → TriesLeft c of body before now last (suc left) → WasRefused c of now mid why → ((s : Short) → why ≡ tx_no.Short s → ⊥) → Stopped c of why mid next again
      → Ended c of before next (child_step body rest) (finish.Stopped again)
  not_begun before now mid next last left why again rest l refused other stopped = by_why why refused other stopped
    where
      stops : (why : TxNo) → Made c [] now mid → Stopped c of why mid next again → (StopsBy of why (end (mine c next) of) → StopsEarly of (end (mine c next) of)) → Ended c of before next (child_step body rest) (finish.Stopped again)
      stops why m stopped early = record {
        leaves = leaves_trans c of before mid next (leaves_trans c of before now mid l.leaves (leaves_still c of now mid m)) stopped.leaves;
        tried = stopped.tried;
        ends = l.front Reach.to_the_end c next (joined_itself c now) (later_trans c now mid next (made_later c [] now mid m) stopped.leaves.later) rest (λ ours.
            ([], stopped.deeds ∙ ap (λ h. deeds h of) (still c of now mid m) ∙ sym (append-nil _), early (stopped.ended ours), asked_none c now next _ (asked_trans c now mid next NoOne (asked_made c [] now mid NoOne m tt) stopped.asked)));
      }

      by_why : (why : TxNo) → WasRefused c of now mid why → ((s : Short) → why ≡ tx_no.Short s → ⊥) → Stopped c of why mid next again → Ended c of before next (child_step body rest) (finish.Stopped again)
      by_why (tx_no.Short s) refused other stopped = absurd (other s refl)
      by_why (tx_no.Orphan a) refused other stopped = stops (tx_no.Orphan a) refused.0 stopped (λ s. Rattle.qc_interp.proofs.Stepping.StepsLeave.orphan_early c of a _ s)
      by_why tx_no.Ended refused other stopped = stops tx_no.Ended refused.0 stopped (λ s. Rattle.qc_interp.proofs.Stepping.Stopping.asked_early of _ s)
      by_why tx_no.Ready refused other stopped = stops tx_no.Ready refused.0 stopped (λ s. Rattle.qc_interp.proofs.Stepping.Stopping.asked_early of _ s)
      by_why (tx_no.ChildrenOpen child) refused other stopped = absurd refused
      by_why (tx_no.Conflict copy holder) refused other stopped = absurd refused.1
      by_why (tx_no.NoQuorum lack) refused other stopped = absurd refused.1
      by_why tx_no.Last refused other stopped = absurd refused.1
      by_why tx_no.Ledger refused other stopped = absurd refused.1

  pub tries_cut : (before now next : Past) (last : Option Name) (left : ℕ) (rest : Plan) → TriesLeft c of body before now last (suc left) → CutTry c of body now next → CutOff c of before next (child_step body rest)
  tries_cut before now next last left rest l t = record {
    leaves = leaves_trans c of before now next l.leaves t.leaves;
    unended = t.unended;
    begins = l.front Reach.cut_off c next (joined_itself c now) t.leaves.later rest (try_cut c of body now next t last left rest);
  }

  -- a try was not begun, and nothing was made after it
  pub begin_cut : (before now next : Past) (last : Option Name) (left : ℕ) (rest : Plan) → TriesLeft c of body before now last (suc left) → Made c [] now next → CutOff c of before next (child_step body rest)
  begin_cut before now next last left rest l m =
      let at = (runs_still c of now next m l.runs).above of [] (sym (append-nil of)) l.runs.nonroot in
      record {
        leaves = leaves_trans c of before now next l.leaves (leaves_cut c of now next (leaves_still c of now next m));
        unended = at.0;
        begins = l.front Reach.cut_off c next (joined_itself c now) (made_later c [] now next m) rest (λ ours. ([], ap (λ h. deeds h of) (still c of now next m) ∙ sym (append-nil _), running_stops (mine c next) of _ at.0 at.1, asked_none c now next _ (asked_made c [] now next NoOne m tt)));
      }

  -- whatever a refusal to begin tells, nothing was made
  pub refused_made : (now mid : Past) (why : TxNo) → WasRefused c of now mid why → Made c [] now mid
  refused_made now mid (tx_no.Short s) refused = refused.0
  refused_made now mid (tx_no.Orphan a) refused = refused.0
  refused_made now mid tx_no.Ended refused = refused.0
  refused_made now mid tx_no.Ready refused = refused.0
  refused_made now mid (tx_no.ChildrenOpen child) refused = absurd refused
  refused_made now mid (tx_no.Conflict copy holder) refused = refused.0
  refused_made now mid (tx_no.NoQuorum lack) refused = refused.0
  refused_made now mid tx_no.Last refused = refused.0
  refused_made now mid tx_no.Ledger refused = refused.0

  pub begin_stops : (now mid : Past) (why : TxNo) → Runs c of now → WasRefused c of now mid why → ((s : Short) → why ≡ tx_no.Short s → ⊥) → Runs c of mid × WhyStop c mid of why
  begin_stops now mid (tx_no.Short s) runs refused other = absurd (other s refl)
  begin_stops now mid (tx_no.Orphan a) runs refused other = (runs_still c of now mid refused.0 runs, refused.1)
  begin_stops now mid tx_no.Ended runs refused other = (runs_still c of now mid refused.0 runs, refused.1)
  begin_stops now mid tx_no.Ready runs refused other = (runs_still c of now mid refused.0 runs, refused.1)
  begin_stops now mid (tx_no.ChildrenOpen child) runs refused other = absurd refused
  begin_stops now mid (tx_no.Conflict copy holder) runs refused other = absurd refused.1
  begin_stops now mid (tx_no.NoQuorum lack) runs refused other = absurd refused.1
  begin_stops now mid tx_no.Last runs refused other = absurd refused.1
  begin_stops now mid tx_no.Ledger runs refused other = absurd refused.1
