use Rattle.std.proofs.Common.{◌+◌, ◌-◌, map}
use Rattle.qc_script.specs.Calls.{MeetsLink}
use Rattle.qc_event.specs.History.{Past}
use Rattle.qc_script.specs.Client.{HasJoined}
use Rattle.qc_script.specs.Plan.{Plan, row_of}
use Rattle.qc_script.specs.Steps.{put, plan_of, numbered}
use Rattle.qc_interp.proofs.Branching.Ends.{GoesOn}
use Rattle.qc_interp.proofs.Branching.Left.{TryRuns}
use Rattle.qc_interp.proofs.Stepping.Loops.{StepsLeft}
use Rattle.qc_interp.proofs.Stepping.Plans.{weight}
use Rattle.qc_interp.proofs.Trying.TriesLeft.{TriesLeft}
use Rattle.qc_interp.proofs.body.+run.Given as goal

abbrev pub invariant-tries-loop : goal.invariant-tries-loop
invariant-tries-loop g l =
    let view = g.T.Tx.view in
    record {
      met : MeetsLink (view l.tx);
      joined : HasJoined (view l.initial.tx).client (view l.initial.tx).seen (view l.tx).client;
      left : TriesLeft (view l.tx).client l.of (numbered l.body) (view l.initial.tx).seen (view l.tx).seen l.last ((numbered l.body).tries - l.counter);
    }

abbrev pub invariant-steps-loop-s : goal.invariant-steps-loop-s
invariant-steps-loop-s g l =
    let view = g.T.Tx.view in
    record {
      met : MeetsLink (view l.tx);
      joined : HasJoined (view l.fn.tx).client (view l.fn.tx).seen (view l.tx).client;
      left : StepsLeft (view l.tx).client l.of l.steps (view l.fn.tx).seen (view l.tx).seen l.s-index;
    }

abbrev pub decreases-steps : goal.decreases-steps
decreases-steps g l = weight (plan_of l.steps.now) + 2

abbrev pub decreases-step : goal.decreases-step
decreases-step g l = weight (put l.step.now Plan.done) + 1

abbrev pub decreases-act : goal.decreases-act
decreases-act g l = weight (put l.step.now Plan.done)

abbrev pub decreases-child : goal.decreases-child
decreases-child g l = weight (numbered l.body.now).plan + 4

abbrev pub decreases-tries : goal.decreases-tries
decreases-tries g l = weight (numbered l.body.now).plan + 3

abbrev pub decreases-branch::branch_tries : goal.decreases-branch::branch_tries
decreases-branch::branch_tries g l = weight (numbered l.body.now).plan + 3

abbrev pub decreases-branch::run_branch : goal.decreases-branch::run_branch
decreases-branch::run_branch g l = weight (numbered l.branch.now.body.now).plan + 4

abbrev pub decreases-row::run_all-for_each_mut : goal.decreases-row::run_all-for_each_mut
decreases-row::run_all-for_each_mut g l = weight (numbered l.branch.now.body.now).plan + 5

abbrev pub decreases-row::run_all : goal.decreases-row::run_all
decreases-row::run_all g l = weight (row_of (map (λ b. numbered b.body.now) l.branches.now)) + 1

abbrev pub decreases-row::par : goal.decreases-row::par
decreases-row::par g l = weight (row_of (map numbered l.bodies.now)) + 2

abbrev pub invariant-branch::branch_tries-loop : goal.invariant-branch::branch_tries-loop
invariant-branch::branch_tries-loop g l =
    let view = g.T.Tx.view in
    record {
      met : MeetsLink (view l.tx);
      goes : GoesOn (view l.fn.tx).client (view l.fn.tx).seen l.of (view l.tx).client (view l.tx).seen;
      runs : (start : Past) × TryRuns (view l.tx).client (numbered l.body) start l.name (view l.tx).seen ((numbered l.body).tries - l.counter);
    }
