-- A transaction goes on, stops or is cut off behind branches that have run.
use Rattle.std.proofs.Common.{Bool, true, false, List, [], refl, sym, ap, ◌∙◌, append-nil}
use Rattle.std.specs.Prelude.{Option, None, Some, option_map}
use Rattle.qc_event.specs.History.{Past, Name, end}
use Rattle.qc_script.specs.declared.tx.TxNo.{TxNo}
use Rattle.qc_script.specs.Client.{Client, mine, Made}
use Rattle.qc_script.specs.Plan.{Plan, Numbered}
use Rattle.qc_interp.specs.AtOnce.{IsCallRefusal}
use Rattle.qc_interp.specs.Branches.{row_step, FrontRow}
use Rattle.qc_interp.specs.Deeds.{Deed, deeds, OfChild}
use Rattle.qc_interp.specs.Reach.{Reach}
use Rattle.qc_interp.specs.Running.{Runs, Leaves, Ended, CutOff, HasFailed, QuitFor, Stopped, WentOn}
use Rattle.qc_interp.specs.declared.stops.Finish.TheVariants as finish
use Rattle.qc_interp.proofs.Stepping.Asked.{NoOne, asked_none, asked_made}
use Rattle.qc_interp.proofs.Branching.Ends.{refusal_early}
use Rattle.qc_interp.proofs.Stepping.Ending.{leaves_trans, leaves_cut, still, leaves_still, runs_still}
use Rattle.qc_interp.proofs.Trying.Failing.{behind_failed}
use Rattle.qc_interp.proofs.Scopes.Growth.{made_later}
use Rattle.qc_interp.proofs.Branching.Joined.{joined_itself}
use Rattle.qc_interp.proofs.Rows.Cut.{runs_after}
use Rattle.qc_interp.proofs.Trying.TriesAlike.{IfAny}

-- Behind branches of which each was tried as often as it is, or not, and of which this try is the first that must have
-- committed and did not.
pub record RowOut (c : Client) (of : Name) (before now : Past) (bodies : List Numbered) (out : Bool) (failed : Option Name) : Type 0 where
  pub leaves : Leaves c of before now
  pub runs : Runs c of now
  pub front : FrontRow c of before now bodies out failed

module _ (c : Client) (of : Name) (before now : Past) (bodies : List Numbered) where
  -- it goes on
  pub row_through : RowOut c of before now bodies true None → WentOn c of before now (row_step bodies)
  row_through r = record {
    leaves = r.leaves;
    runs = r.runs;
    follows = λ reach d x j later rest ends. r.front reach d x j later rest ends;
  }

  module _ (x : Past) where
    -- it was aborted for the child that failed, or stopped
    pub row_quit : (last : Name) (again : Bool) (rest : Plan) → RowOut c of before now bodies true (Some last) → HasFailed c of now last → QuitFor c of last now x again → Ended c of before x (row_step bodies rest) (finish.Stopped again)
    row_quit last again rest r failed quit = record {
      leaves = leaves_trans c of before now x r.leaves quit.leaves;
      tried = quit.tried;
      ends = r.front Reach.to_the_end c x (joined_itself c now) quit.leaves.later rest (λ ours. ([], quit.deeds ∙ sym (append-nil _), behind_failed c of last now x again rest failed quit ours, asked_none c now x _ quit.asked));
    }

    -- it stopped by a refusal
    pub row_stops : (why : TxNo) (again : Bool) (rest : Plan) → RowOut c of before now bodies false None → IsCallRefusal why → Stopped c of why now x again → Ended c of before x (row_step bodies rest) (finish.Stopped again)
    row_stops why again rest r is stopped = record {
      leaves = leaves_trans c of before now x r.leaves stopped.leaves;
      tried = stopped.tried;
      ends = r.front Reach.to_the_end c x (joined_itself c now) stopped.leaves.later rest (λ ours. ([], stopped.deeds ∙ sym (append-nil _), (refl, refusal_early c of why (end (mine c x) of) is (stopped.ended ours)), asked_none c now x _ stopped.asked));
    }

    -- it was cut off there
    pub row_cut_behind : (out : Bool) (failed : Option Name) (rest : Plan) → RowOut c of before now bodies out failed → Made c [] now x → CutOff c of before x (row_step bodies rest)
    row_cut_behind out failed rest r m =
        let at = (runs_still c of now x m r.runs).above of [] (sym (append-nil of)) r.runs.nonroot in
        record {
          leaves = leaves_trans c of before now x r.leaves (leaves_cut c of now x (leaves_still c of now x m));
          unended = at.0;
          begins = r.front Reach.cut_off c x (joined_itself c now) (made_later c [] now x m) rest (λ ours. (
            [],
            ap (λ h. deeds h of) (still c of now x m) ∙ sym (append-nil _),
            runs_after c.session (mine c x) of (end (mine c x) of) at.0 at.1 out (option_map Deed.child failed) rest (any_child failed),
            asked_none c now x _ (asked_made c [] now x NoOne m tt),
          ));
        }
      where
        any_child : (f : Option Name) → IfAny (OfChild (λ y. Unit {0})) (option_map Deed.child f)
        any_child None = tt
        any_child (Some y) = tt
