-- What follows a manager by its answer.
use Rattle.std.proofs.Common.{◌≡◌, Bool, sym, subst}
use Rattle.std.specs.Prelude.{Option, None, Some}
use Rattle.qc_event.specs.declared.event.Answer.{Answer}
use Rattle.qc_event.specs.declared.event.Kind.{Kind}
use Rattle.qc_event.specs.History.{Past, Name}
use Rattle.qc_script.specs.Client.{Client}
use Rattle.qc_script.specs.Plan.{Plan}
use Rattle.qc_interp.specs.Reach.{Reach}
use Rattle.qc_interp.specs.declared.stops.Finish.{Finish}
use Rattle.qc_interp.specs.declared.stops.Finish.TheVariants as finish
use Rattle.qc_interp.specs.Running.{Ends, EndsAt, Ended, CutOff, WentOn, WentBy, Stepped}
use Rattle.qc_interp.proofs.Stepping.Ending.{leaves_trans}
use Rattle.qc_interp.proofs.Branching.Joined.{joined_itself, joined_before, joined_since}

module _ (c : Client) (of : Name) (k : Kind) (given : Answer) (before mid : Past) (by : WentBy c of before mid k given) where
  -- it goes on at once
  pub by_here : (next : Plan → Answer → Plan) → ((rest : Plan) → next rest given ≡ rest) → WentOn c of before mid (λ rest. Plan.manage_by k (next rest))
  by_here next same = record {
    leaves = by.leaves;
    runs = by.runs;
    follows = λ reach d x j later rest ends. by.follows reach d x j later (next rest) (subst (EndsAt reach d of mid x) (sym (same rest)) ends);
  }

  -- it goes on after what follows
  pub by_on : (now : Past) (front : Plan → Plan) (next : Plan → Answer → Plan) → ((rest : Plan) → next rest given ≡ front rest) → WentOn c of mid now front → WentOn c of before now (λ rest. Plan.manage_by k (next rest))
  by_on now front next same on = record {
    leaves = leaves_trans c of before mid now by.leaves on.leaves;
    runs = on.runs;
    follows = λ reach d x j later rest ends.
        by.follows reach d x (joined_before c d mid now on.leaves.later j) (joined_since c d now j mid x on.leaves.later later) (next rest)
        (subst (EndsAt reach d of mid x) (sym (same rest)) (on.follows reach d x j later rest ends));
  }

  -- it ends in what follows
  pub by_ended : (now : Past) (plan : Plan) (next : Answer → Plan) (to : Finish) → next given ≡ plan → Ended c of mid now plan to → Ended c of before now (Plan.manage_by k next) to
  by_ended now plan next to same e = record {
    leaves = leaves_trans c of before mid now by.leaves e.leaves;
    tried = e.tried;
    ends = by.follows Reach.to_the_end c now (joined_itself c mid) e.leaves.later next (subst (Ends c of mid now) (sym same) e.ends);
  }

  -- it is cut off in what follows
  pub by_cut : (now : Past) (plan : Plan) (next : Answer → Plan) → next given ≡ plan → CutOff c of mid now plan → CutOff c of before now (Plan.manage_by k next)
  by_cut now plan next same e = record {
    leaves = leaves_trans c of before mid now by.leaves e.leaves;
    unended = e.unended;
    begins = by.follows Reach.cut_off c now (joined_itself c mid) e.leaves.later next (subst (EndsAt Reach.cut_off c of mid now) (sym same) e.begins);
  }

  -- a step is done in what follows
  pub by_stepped : (now : Past) (front : Plan → Plan) (next : Plan → Answer → Plan) → ((rest : Plan) → next rest given ≡ front rest) → (r : Option Bool) → Stepped c of mid now front r → Stepped c of before now (λ rest. Plan.manage_by k (next rest)) r
  by_stepped now front next same None on = by_on now front next same on
  by_stepped now front next same (Some again) ended = λ rest. by_ended now (front rest) (next rest) (finish.Stopped again) (same rest) (ended rest)
