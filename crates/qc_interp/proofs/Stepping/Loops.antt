-- What is left of the steps of a transaction after some of them.
use Rattle.std.proofs.Common.{◌≡◌, ℕ, ◌+◌, ◌<◌, ◌≤◌, List, [], ◌++◌, drop, length, get_or, sym, ap, ◌∙◌, subst}
use Rattle.std.proofs.lemmas.List.{drop_all}
use Rattle.qc_event.specs.History.{Past, Name}
use Rattle.qc_script.specs.declared.script.Step.{Step}
use Rattle.qc_script.specs.Client.{Client, Made, IsLater, HasJoined}
use Rattle.qc_script.specs.Plan.{Plan, PlanFits}
use Rattle.qc_script.specs.Steps.{put, plan_of}
use Rattle.qc_interp.specs.Reach.{Reach}
use Rattle.qc_interp.specs.declared.stops.Finish.{Finish}
use Rattle.qc_interp.specs.Running.{Runs, Leaves, EndsAt, Ends, Ended, WentOn, CutOff}
use Rattle.qc_interp.specs.Deeds.{deeds}
use Rattle.qc_interp.proofs.Stepping.Asked.{asked_made, asked_trans}
use Rattle.qc_interp.proofs.Stepping.Ending.{leaves_trans, still, leaves_still, runs_still}
use Rattle.qc_interp.proofs.Branching.Joined.{joined_itself, joined_before, joined_chain, joined_since, joined_runs, joined_leaves, joined_none, joined_setting}
use Rattle.qc_interp.proofs.Stepping.Plans.{plan_at, fits_at}

pub record StepsLeft (c : Client) (of : Name) (steps : List Step) (before now : Past) (i : ℕ) : Type 0 where
  pub leaves : Leaves c of before now
  pub runs : Runs c of now
  pub fits : PlanFits c.setting (length of) (plan_of (drop i steps))
  pub front : (reach : Reach) (d : Client) (x : Past) → HasJoined c now d → IsLater d now x → EndsAt reach d of now x (plan_of (drop i steps)) → EndsAt reach d of before x (plan_of steps)

-- they are left too as the client merges branches
pub steps_joined : (c d : Client) (of : Name) (steps : List Step) (before now : Past) (i : ℕ) → HasJoined c now d → StepsLeft c of steps before now i → StepsLeft d of steps before now i
steps_joined c d of steps before now i j left =
    let runs = joined_runs c d now j of left.runs in
    record {
      leaves = joined_leaves c d now j Reach.to_the_end of before left.leaves;
      runs = runs;
      fits = subst (λ setting. PlanFits setting (length of) (plan_of (drop i steps))) (sym (joined_setting c d now j)) left.fits;
      front = λ reach e x further. left.front reach e x (joined_chain c d now j e runs.legal further);
    }

module _ (c : Client) (of : Name) (steps : List Step) where
  pub none_done : (before now : Past) → Runs c of before → Made c [] before now → PlanFits c.setting (length of) (plan_of steps) → StepsLeft c of steps before now 0
  none_done before now runs m fits = record {
    leaves = leaves_still c of before now m;
    runs = runs_still c of before now m runs;
    fits = fits;
    front = λ reach d x j later ends ours.
        let e = ends ours in
        let same = joined_none c d now j before m in
        (e.0, e.1 ∙ ap (λ h. deeds h of ++ e.0) (still d of before now same), e.2, asked_trans d before now x _ (asked_made d [] before now _ same tt) e.3);
  }

  module _ (before now next : Past) (i : ℕ) (s : Step) (left : StepsLeft c of steps before now i) (below : i < length steps) (is : s ≡ get_or steps i s) where
    pub fits_step : PlanFits c.setting (length of) (put s Plan.done)
    fits_step = (fits_at c.setting (length of) steps i s below is left.fits).0

    pub one_done : WentOn c of now next (put s) → StepsLeft c of steps before next (i + 1)
    one_done on = record {
      leaves = leaves_trans c of before now next left.leaves on.leaves;
      runs = on.runs;
      fits = (fits_at c.setting (length of) steps i s below is left.fits).1;
      front = λ reach d x j later ends.
          left.front reach d x (joined_before c d now next on.leaves.later j) (joined_since c d next j now x on.leaves.later later)
          (subst (EndsAt reach d of now x) (sym (plan_at steps i s below is)) (on.follows reach d x j later (plan_of (drop (i + 1) steps)) ends));
    }

    pub stopped_there : (to : Finish) → ((rest : Plan) → Ended c of now next (put s rest) to) → Ended c of before next (plan_of steps) to
    stopped_there to ended =
        let e = ended (plan_of (drop (i + 1) steps)) in
        record {
          leaves = leaves_trans c of before now next left.leaves e.leaves;
          tried = e.tried;
          ends = left.front Reach.to_the_end c next (joined_itself c now) e.leaves.later (subst (Ends c of now next) (sym (plan_at steps i s below is)) e.ends);
        }

    pub cut_there : ((rest : Plan) → CutOff c of now next (put s rest)) → CutOff c of before next (plan_of steps)
    cut_there cut =
        let e = cut (plan_of (drop (i + 1) steps)) in
        record {
          leaves = leaves_trans c of before now next left.leaves e.leaves;
          unended = e.unended;
          begins = left.front Reach.cut_off c next (joined_itself c now) e.leaves.later (subst (EndsAt Reach.cut_off c of now next) (sym (plan_at steps i s below is)) e.begins);
        }

  pub all_done : (before now next : Past) (i : ℕ) (to : Finish) → StepsLeft c of steps before now i → length steps ≤ i → Ended c of now next Plan.done to → Ended c of before next (plan_of steps) to
  all_done before now next i to left past e = record {
    leaves = leaves_trans c of before now next left.leaves e.leaves;
    tried = e.tried;
    ends = left.front Reach.to_the_end c next (joined_itself c now) e.leaves.later (subst (Ends c of now next) (sym (ap plan_of (drop_all i steps past))) e.ends);
  }

  pub cut_at_last : (before now next : Past) (i : ℕ) → StepsLeft c of steps before now i → length steps ≤ i → CutOff c of now next Plan.done → CutOff c of before next (plan_of steps)
  cut_at_last before now next i left past e = record {
    leaves = leaves_trans c of before now next left.leaves e.leaves;
    unended = e.unended;
    begins = left.front Reach.cut_off c next (joined_itself c now) e.leaves.later (subst (EndsAt Reach.cut_off c of now next) (sym (ap plan_of (drop_all i steps past))) e.begins);
  }
