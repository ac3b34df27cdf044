use Rattle.std.proofs.Common.{rules, inr, Ok, map, ◌∷◌, None, ◌≡◌, ◌<◌, ◌≤◌, ◌-◌, [], length, refl, sym, ap, ◌∙◌, subst, arith}
use Rattle.std.specs.Prelude.{IfOk, IfErr, Some}
use Rattle.qc_event.specs.declared.event.Kind.TheVariants as kind
use Rattle.qc_script.specs.Client.{Client, ClientView, Made, HasJoined}
use Rattle.qc_script.specs.Plan.{Plan, PlanFits, manage_then, row_of}
use Rattle.qc_script.specs.Steps.{put, plan_of, numbered}
use Rattle.qc_interp.specs.Running.{Runs, WhyStop, Ended, CutOff, Acted, HasActed, HasLooked, Stepped, WentOn, child_step, TriesCame}
use Rattle.qc_interp.specs.declared.stops.Finish.TheVariants as finish
use Rattle.qc_interp.proofs.Listing.Lists.{kept_whole}
use Rattle.qc_interp.proofs.Stepping.Results.{if_ok, if_err, any_err, same_err}
use Rattle.qc_event.specs.Wants.{IsWant}
use Rattle.qc_interp.proofs.Stepping.Ending.{cut_still}
use Rattle.qc_interp.proofs.Branching.Joined.{joined_itself, joined_same, joined_trans}
use Rattle.qc_interp.proofs.Stepping.Plans.{weight, plan_is, tries_of, number_of, must_of, put_read, put_set, put_add, put_sub, put_need, put_reconf, put_child, put_par, put_abort, put_crash, put_kill, step_lighter}
use Rattle.qc_interp.proofs.Stepping.Loops.{StepsLeft, steps_joined, fits_step, one_done, stopped_there, cut_there, cut_at_last, all_done, none_done}
use Rattle.qc_interp.proofs.Trying.Failing.{failed_on, failed_quit, failed_cut}
use Rattle.qc_interp.proofs.Trying.ChildAnswers.{fits_child, unbegun, ran_try}
use Rattle.qc_interp.proofs.Stepping.Acted.{acted_so, cut_so}
use Rattle.qc_interp.proofs.Stepping.Marking.{acted_on, looked_behind, acted_cut, killed_first}
use Rattle.qc_interp.proofs.Stepping.StepsLeave.{crash_on}
use Rattle.qc_interp.proofs.Trying.Tried.{may_begin, runs_begun}
use Rattle.qc_interp.proofs.Trying.TriesLeft.{TriesLeft, all_failed, none_to_begin, none_tried}
use mathlib.Core.Bool.{true≢false}
use Rattle.qc_interp.specs.declared.body.branch.Branch.{Branch as Held}
use Rattle.qc_interp.specs.AtOnce.{StandingBranch, stands, row_came, WentBehind, MayRun, HasRun, TriesEnd}
use Rattle.qc_interp.proofs.Branching.Plans.{row_heavier}
use Rattle.qc_interp.specs.declared.body.branch.BranchCame.TheVariants as came
use Rattle.qc_interp.specs.Branches.{row_step}
use Rattle.qc_script.specs.Calls.{MeetsLink, by_client}
use Rattle.std.specs.List.{AllByRecursion}
use Rattle.qc_interp.proofs.Rows.Done.{done_joined, done_cut, done_want, done_out, done_knows, done_acted, done_cut_behind}
use Rattle.qc_interp.proofs.Rows.Step.{row_depth, bodies_begun, row_may, row_out, row_done, few_out, row_turned, row_want}
use Rattle.qc_interp.proofs.Rows.TurnedOut.{back_joined, back_legal}
use Rattle.qc_interp.proofs.Rows.TurnedDone.{turned_refused_so, turned_are_firsts, turned_cut_at_once, turned_cut_off, turned_row_out, turned_knows, turned_acted, turned_cut_behind}
use Rattle.qc_interp.proofs.Listing.InOrder.{pairs_at}
use Rattle.qc_interp.proofs.Branching.Shown.{each_at}
use Rattle.qc_interp.specs.Reach.{Reach}
use Rattle.qc_event.specs.declared.event.Event.TheVariants as event
use Rattle.qc_interp.proofs.Branching.Answers.{fits_try, branch_cut_off, branch_ended, branch_refused, further_runs}
use Rattle.qc_interp.proofs.Branching.Left.{try_starts}
use Rattle.qc_interp.proofs.Branching.Ends.{may_start}
use Rattle.qc_interp.proofs.Scopes.Growth.{made_itself, later_itself}
use Rattle.qc_interp.proofs.body.+run.Goals as goal

-- CHILDREN

pub tries-steps-requires : goal.tries-steps-requires
tries-steps-requires g t c κs within =
    let inv = c.loop.invariant in
    let v = g.T.Tx.view c.args.tx.now in
    let w = g.T.Tx.view c.loop.tx in
    let x = g.T.Tx.view c.begin.new.self in
    let of = c.args.of.now in
    let n = c.in-Ok.name in
    let same = plan_is c.args.body.now c.as_slice.result.now c.as_slice.ensures.value in
    let runs = runs_begun w.client of n _ w.seen x.seen (may_begin w.client of w.seen inv.left.runs) c.in-Ok.ensures.child c.in-Ok.ensures.ok in
    let fits = fits_child v.client w.client v.seen of n _ _ inv.joined c.in-Ok.ensures.child same c.requires.fits in
    let both = subst (λ d. Runs d n x.seen × PlanFits d.setting (length n) (plan_of c.as_slice.result.now)) (sym c.begin.ensures.client) (runs, fits) in
    (omega (arith, ap weight same), (within.0, (within.1, (search rules, (search rules, (both.0, (both.1, c.begin.ensures.met)))))))

pub tries-returns-in-Committed : goal.tries-returns-in-Committed
tries-returns-in-Committed g t c =
    let inv = c.loop.invariant in
    let v = g.T.Tx.view c.args.tx.now in
    let w = g.T.Tx.view c.loop.tx in
    let x = g.T.Tx.view c.begin.new.self in
    let y = g.T.Tx.view c.steps.new.tx in
    let body = numbered c.args.body.now in
    let few : c.loop.counter < body.tries = subst (λ n. c.loop.counter < n) (sym (tries_of c.args.body.now)) c.loop-test.true in
    let plan = plan_is c.args.body.now c.as_slice.result.now c.as_slice.ensures.value in
    let ran = ran_try v w x y c.args.of.now body c.loop.last c.loop.counter inv.left few c.begin.ensures.client c.in-Ok.name c.in-Ok.ensures.child _ (sym (number_of c.args.body.now)) c.in-Ok.ensures.ok c.steps.ensures.joined _ plan in
    let ended = subst (Ended y.client c.in-Ok.name x.seen y.seen (plan_of c.as_slice.result.now)) c.in-Committed.is c.in_ok-steps-in-Ok.ensures.ok in
    record { met = c.steps.ensures.met; joined = ran.joined inv.joined; ok = ran.through ended; cut = tt; room = tt }

pub tries-returns-then-not-again : goal.tries-returns-then-not-again
tries-returns-then-not-again g t c =
    let inv = c.loop.invariant in
    let v = g.T.Tx.view c.args.tx.now in
    let w = g.T.Tx.view c.loop.tx in
    let x = g.T.Tx.view c.begin.new.self in
    let y = g.T.Tx.view c.steps.new.tx in
    let body = numbered c.args.body.now in
    let few : c.loop.counter < body.tries = subst (λ n. c.loop.counter < n) (sym (tries_of c.args.body.now)) c.loop-test.true in
    let plan = plan_is c.args.body.now c.as_slice.result.now c.as_slice.ensures.value in
    let ran = ran_try v w x y c.args.of.now body c.loop.last c.loop.counter inv.left few c.begin.ensures.client c.in-Ok.name c.in-Ok.ensures.child _ (sym (number_of c.args.body.now)) c.in-Ok.ensures.ok c.steps.ensures.joined _ plan in
    let ended = subst (Ended y.client c.in-Ok.name x.seen y.seen (plan_of c.as_slice.result.now)) (c.in-Stopped.is ∙ ap finish.Stopped c.if-not-again.true) c.in_ok-steps-in-Ok.ensures.ok in
    record { met = c.steps.ensures.met; joined = ran.joined inv.joined; ok = ran.failed ended; cut = tt; room = tt }

pub tries-stop-requires : goal.tries-stop-requires
tries-stop-requires g t c =
    let inv = c.loop.invariant in
    let v = g.T.Tx.view c.args.tx.now in
    let w = g.T.Tx.view c.loop.tx in
    let x = g.T.Tx.view c.begin.new.self in
    let body = numbered c.args.body.now in
    let few : c.loop.counter < body.tries = subst (λ n. c.loop.counter < n) (sym (tries_of c.args.body.now)) c.loop-test.true in
    let no = unbegun v w x x c.args.of.now body c.loop.last c.loop.counter inv.left few c.begin.ensures.client c.in-Err.why c.in-Err.ensures.err in
    let stops = no.stops c.in_default.not-Short in
    record { met = c.begin.ensures.met; runs = stops.0; why = stops.1 }

pub tries-returns-in_ok-again-in_default : goal.tries-returns-in_ok-again-in_default
tries-returns-in_ok-again-in_default g t c =
    let inv = c.loop.invariant in
    let v = g.T.Tx.view c.args.tx.now in
    let w = g.T.Tx.view c.loop.tx in
    let x = g.T.Tx.view c.begin.new.self in
    let y = g.T.Tx.view c.stop.new.tx in
    let body = numbered c.args.body.now in
    let few : c.loop.counter < body.tries = subst (λ n. c.loop.counter < n) (sym (tries_of c.args.body.now)) c.loop-test.true in
    let no = unbegun v w x y c.args.of.now body c.loop.last c.loop.counter inv.left few c.begin.ensures.client c.in-Err.why c.in-Err.ensures.err in
    record {
      met = c.stop.ensures.met;
      joined = subst (HasJoined v.client v.seen) (sym (c.stop.ensures.client ∙ c.begin.ensures.client)) inv.joined;
      ok = no.ended c.in_default.not-Short c.in_ok-again-in_default.again c.stop.ensures.client c.in_ok-again-in_default.ensures.ok;
      cut = tt;
      room = tt;
    }

pub tries-loop-preserved : goal.tries-loop-preserved
tries-loop-preserved g t c =
    let inv = c.loop.invariant in
    let v = g.T.Tx.view c.args.tx.now in
    let w = g.T.Tx.view c.loop.tx in
    let x = g.T.Tx.view c.begin.new.self in
    let y = g.T.Tx.view c.steps.new.tx in
    let body = numbered c.args.body.now in
    let few : c.loop.counter < body.tries = subst (λ n. c.loop.counter < n) (sym (tries_of c.args.body.now)) c.loop-test.true in
    let plan = plan_is c.args.body.now c.as_slice.result.now c.as_slice.ensures.value in
    let ran = ran_try v w x y c.args.of.now body c.loop.last c.loop.counter inv.left few c.begin.ensures.client c.in-Ok.name c.in-Ok.ensures.child _ (sym (number_of c.args.body.now)) c.in-Ok.ensures.ok c.steps.ensures.joined _ plan in
    let ended = subst (Ended y.client c.in-Ok.name x.seen y.seen (plan_of c.as_slice.result.now)) (c.in-Stopped.is ∙ ap finish.Stopped c.if-not-again.false) c.in_ok-steps-in-Ok.ensures.ok in
    record { met = c.steps.ensures.met; joined = ran.joined inv.joined; left = ran.again ended }

pub tries-returns-in-Some-clause-ok : goal.tries-returns-in-Some-clause-ok
tries-returns-in-Some-clause-ok g t c =
    let inv = c.loop.invariant in
    let v = g.T.Tx.view c.args.tx.now in
    let w = g.T.Tx.view c.loop.tx in
    let body = numbered c.args.body.now in
    let over : body.tries ≤ c.loop.counter = subst (λ n. n ≤ c.loop.counter) (sym (tries_of c.args.body.now)) c.loop-test.false in
    all_failed w.client c.args.of.now body v.seen w.seen c.in-Some.last
    (subst (λ o. TriesLeft w.client c.args.of.now body v.seen w.seen o 0) c.in-Some.is (subst (TriesLeft w.client c.args.of.now body v.seen w.seen c.loop.last) (let e : body.tries - c.loop.counter ≡ 0 = omega (arith, over) in e) inv.left))

pub tries-returns-in-None-clause-ok : goal.tries-returns-in-None-clause-ok
tries-returns-in-None-clause-ok g t c =
    let inv = c.loop.invariant in
    let v = g.T.Tx.view c.args.tx.now in
    let w = g.T.Tx.view c.loop.tx in
    let body = numbered c.args.body.now in
    let over : body.tries ≤ c.loop.counter = subst (λ n. n ≤ c.loop.counter) (sym (tries_of c.args.body.now)) c.loop-test.false in
    none_to_begin w.client c.args.of.now body v.seen w.seen
    (subst (λ o. TriesLeft w.client c.args.of.now body v.seen w.seen o 0) c.in-None.is (subst (TriesLeft w.client c.args.of.now body v.seen w.seen c.loop.last) (let e : body.tries - c.loop.counter ≡ 0 = omega (arith, over) in e) inv.left))

-- where it was cut off

pub tries-returns-in_err-steps-in-Ok : goal.tries-returns-in_err-steps-in-Ok
tries-returns-in_err-steps-in-Ok g t c =
    let inv = c.loop.invariant in
    let v = g.T.Tx.view c.args.tx.now in
    let w = g.T.Tx.view c.loop.tx in
    let x = g.T.Tx.view c.begin.new.self in
    let y = g.T.Tx.view c.steps.new.tx in
    let body = numbered c.args.body.now in
    let few : c.loop.counter < body.tries = subst (λ n. c.loop.counter < n) (sym (tries_of c.args.body.now)) c.loop-test.true in
    let plan = plan_is c.args.body.now c.as_slice.result.now c.as_slice.ensures.value in
    let ran = ran_try v w x y c.args.of.now body c.loop.last c.loop.counter inv.left few c.begin.ensures.client c.in-Ok.name c.in-Ok.ensures.child _ (sym (number_of c.args.body.now)) c.in-Ok.ensures.ok c.steps.ensures.joined _ plan in
    record { met = c.steps.ensures.met; joined = ran.joined inv.joined; ok = search rules; cut = any_err _ c.from_residual.result (ran.cut c.in_err-steps-in-Ok.ensures.cut); room = search rules }

pub tries-returns-in-Short : goal.tries-returns-in-Short
tries-returns-in-Short g t c =
    let inv = c.loop.invariant in
    let v = g.T.Tx.view c.args.tx.now in
    let w = g.T.Tx.view c.loop.tx in
    let x = g.T.Tx.view c.begin.new.self in
    let body = numbered c.args.body.now in
    let few : c.loop.counter < body.tries = subst (λ n. c.loop.counter < n) (sym (tries_of c.args.body.now)) c.loop-test.true in
    let no = unbegun v w x x c.args.of.now body c.loop.last c.loop.counter inv.left few c.begin.ensures.client c.in-Err.why c.in-Err.ensures.err in
    record { met = c.begin.ensures.met; joined = subst (HasJoined v.client v.seen) (sym c.begin.ensures.client) inv.joined; ok = tt; cut = no.cut; room = search rules }

pub tries-returns-in_err-again-in_default : goal.tries-returns-in_err-again-in_default
tries-returns-in_err-again-in_default g t c =
    let inv = c.loop.invariant in
    let v = g.T.Tx.view c.args.tx.now in
    let w = g.T.Tx.view c.loop.tx in
    let x = g.T.Tx.view c.begin.new.self in
    let y = g.T.Tx.view c.stop.new.tx in
    let body = numbered c.args.body.now in
    let few : c.loop.counter < body.tries = subst (λ n. c.loop.counter < n) (sym (tries_of c.args.body.now)) c.loop-test.true in
    let no = unbegun v w x y c.args.of.now body c.loop.last c.loop.counter inv.left few c.begin.ensures.client c.in-Err.why c.in-Err.ensures.err in
    record {
      met = c.stop.ensures.met;
      joined = subst (HasJoined v.client v.seen) (sym (c.stop.ensures.client ∙ c.begin.ensures.client)) inv.joined;
      ok = search rules;
      cut = any_err _ c.from_residual-in_err-again-in_default.result (no.stopped_cut c.stop.ensures.client c.in_err-again-in_default.ensures.cut);
      room = search rules;
    }

-- BEHIND THE TRIES

pub child-returns-then-not-body-clause-ok : goal.child-returns-then-not-body-clause-ok
child-returns-then-not-body-clause-ok g t c =
    let v = g.T.Tx.view c.args.tx.now in
    let w = g.T.Tx.view c.tries.new.tx in
    let of = c.args.of.now in
    let body = c.args.body.now in
    let failed = subst (TriesCame w.client of v.seen w.seen (numbered body)) c.in-Failed.is c.in_ok-tries.ensures.ok in
    failed_on w.client of (numbered body) v.seen w.seen c.in-Failed.last failed (must_of body ∙ c.if-not-body.true)

pub child-returns-in_ok-again-in-Failed : goal.child-returns-in_ok-again-in-Failed
child-returns-in_ok-again-in-Failed g t c =
    let v = g.T.Tx.view c.args.tx.now in
    let w = g.T.Tx.view c.tries.new.tx in
    let x = g.T.Tx.view c.quit_for.new.tx in
    let of = c.args.of.now in
    let body = c.args.body.now in
    let failed = subst (TriesCame w.client of v.seen w.seen (numbered body)) c.in-Failed.is c.in_ok-tries.ensures.ok in
    record {
      met = c.quit_for.ensures.met;
      joined = subst (HasJoined v.client v.seen) (sym c.quit_for.ensures.client) c.tries.ensures.joined;
      ok = λ rest.
          subst (λ d. Ended d of v.seen x.seen (child_step (numbered body) rest) (finish.Stopped c.in_ok-again-in-Failed.again)) (sym c.quit_for.ensures.client)
          (failed_quit w.client of (numbered body) v.seen w.seen c.in-Failed.last failed x.seen c.in_ok-again-in-Failed.again rest (must_of body ∙ c.if-not-body.false) c.in_ok-again-in-Failed.ensures.ok);
      cut = tt;
      room = tt;
    }

pub child-returns-in_err-again-in-Failed : goal.child-returns-in_err-again-in-Failed
child-returns-in_err-again-in-Failed g t c =
    let v = g.T.Tx.view c.args.tx.now in
    let w = g.T.Tx.view c.tries.new.tx in
    let x = g.T.Tx.view c.quit_for.new.tx in
    let of = c.args.of.now in
    let body = c.args.body.now in
    let failed = subst (TriesCame w.client of v.seen w.seen (numbered body)) c.in-Failed.is c.in_ok-tries.ensures.ok in
    record {
      met = c.quit_for.ensures.met;
      joined = subst (HasJoined v.client v.seen) (sym c.quit_for.ensures.client) c.tries.ensures.joined;
      ok = search rules;
      cut = any_err _ c.from_residual-in_err-again-in-Failed.result
          (λ rest. subst (λ d. CutOff d of v.seen x.seen (child_step (numbered body) rest)) (sym c.quit_for.ensures.client)
          (failed_cut w.client of (numbered body) v.seen w.seen c.in-Failed.last failed x.seen rest c.in_err-again-in-Failed.ensures.cut));
      room = search rules;
    }

-- ONE STEP

pub act-returns-in-Read : goal.act-returns-in-Read
act-returns-in-Read g t c =
    let v = g.T.Tx.view c.args.tx.now in
    let w = g.T.Tx.view c.manage.new.tx in
    let is = ap put c.in-Read.is ∙ put_read c.in-Read.rec in
    let both = acted_so c.args.of.now v.seen w.seen c.manage.result c.manage.ensures.client is c.manage.ensures.ok c.manage.ensures.cut in
    record { met = c.manage.ensures.met; joined = joined_same _ _ _ c.manage.ensures.client; ok = both.0; cut = both.1; room = c.manage.ensures.room }

pub act-returns-in-Set : goal.act-returns-in-Set
act-returns-in-Set g t c =
    let v = g.T.Tx.view c.args.tx.now in
    let w = g.T.Tx.view c.manage-in-Set.new.tx in
    let is = ap put c.in-Set.is ∙ put_set c.in-Set.rec c.in-Set.value ∙ ap (λ value. manage_then (kind.Write c.in-Set.rec value)) (sym c.val.ensures) in
    let both = acted_so c.args.of.now v.seen w.seen c.manage-in-Set.result c.manage-in-Set.ensures.client is c.manage-in-Set.ensures.ok c.manage-in-Set.ensures.cut in
    record { met = c.manage-in-Set.ensures.met; joined = joined_same _ _ _ c.manage-in-Set.ensures.client; ok = both.0; cut = both.1; room = c.manage-in-Set.ensures.room }

pub act-returns-in-Add : goal.act-returns-in-Add
act-returns-in-Add g t c =
    let v = g.T.Tx.view c.args.tx.now in
    let w = g.T.Tx.view c.change_value.new.tx in
    let is = ap put c.in-Add.is ∙ put_add c.in-Add.rec c.in-Add.value in
    let both = acted_so c.args.of.now v.seen w.seen c.change_value.result c.change_value.ensures.client is c.change_value.ensures.ok c.change_value.ensures.cut in
    record { met = c.change_value.ensures.met; joined = joined_same _ _ _ c.change_value.ensures.client; ok = both.0; cut = both.1; room = c.change_value.ensures.room }

pub act-returns-in-Sub : goal.act-returns-in-Sub
act-returns-in-Sub g t c =
    let v = g.T.Tx.view c.args.tx.now in
    let w = g.T.Tx.view c.change_value-in-Sub.new.tx in
    let is = ap put c.in-Sub.is ∙ put_sub c.in-Sub.rec c.in-Sub.value in
    let both = acted_so c.args.of.now v.seen w.seen c.change_value-in-Sub.result c.change_value-in-Sub.ensures.client is c.change_value-in-Sub.ensures.ok c.change_value-in-Sub.ensures.cut in
    record { met = c.change_value-in-Sub.ensures.met; joined = joined_same _ _ _ c.change_value-in-Sub.ensures.client; ok = both.0; cut = both.1; room = c.change_value-in-Sub.ensures.room }

pub act-returns-in-Need : goal.act-returns-in-Need
act-returns-in-Need g t c =
    let v = g.T.Tx.view c.args.tx.now in
    let w = g.T.Tx.view c.need.new.tx in
    let is = ap put c.in-Need.is ∙ put_need c.in-Need.rec c.in-Need.value in
    let both = acted_so c.args.of.now v.seen w.seen c.need.result c.need.ensures.client is c.need.ensures.ok c.need.ensures.cut in
    record { met = c.need.ensures.met; joined = joined_same _ _ _ c.need.ensures.client; ok = both.0; cut = both.1; room = c.need.ensures.room }

pub act-returns-in-Reconf : goal.act-returns-in-Reconf
act-returns-in-Reconf g t c =
    let v = g.T.Tx.view c.args.tx.now in
    let w = g.T.Tx.view c.manage-in-Reconf.new.tx in
    let is = ap put c.in-Reconf.is ∙ put_reconf c.in-Reconf.rec c.in-Reconf.config in
    let both = acted_so c.args.of.now v.seen w.seen c.manage-in-Reconf.result c.manage-in-Reconf.ensures.client is c.manage-in-Reconf.ensures.ok c.manage-in-Reconf.ensures.cut in
    record { met = c.manage-in-Reconf.ensures.met; joined = joined_same _ _ _ c.manage-in-Reconf.ensures.client; ok = both.0; cut = both.1; room = c.manage-in-Reconf.ensures.room }

pub act-returns-in-Child : goal.act-returns-in-Child
act-returns-in-Child g t c =
    let v = g.T.Tx.view c.args.tx.now in
    let w = g.T.Tx.view c.child.new.tx in
    let is = ap put c.in-Child.is ∙ put_child c.in-Child.body in
    let both = acted_so {c = w.client} c.args.of.now v.seen w.seen c.child.result refl is c.child.ensures.ok c.child.ensures.cut in
    record { met = c.child.ensures.met; joined = c.child.ensures.joined; ok = both.0; cut = both.1; room = c.child.ensures.room }

pub act-returns-in-Par : goal.act-returns-in-Par
act-returns-in-Par g t c =
    let v = g.T.Tx.view c.args.tx.now in
    let w = g.T.Tx.view c.par.new.tx in
    let is = ap put c.in-Par.is ∙ put_par c.in-Par.bodies ∙ ap (λ l. row_step (map numbered l)) (sym c.as_slice.ensures.value) in
    record {
      met = c.par.ensures.met;
      joined = c.par.ensures.joined;
      ok = subst (λ f. IfOk c.par.result (HasActed w.client c.args.of.now v.seen w.seen f)) (sym is) c.par.ensures.ok;
      cut = cut_so {c = w.client} c.args.of.now v.seen w.seen c.par.result refl is c.par.ensures.cut;
      room = c.par.ensures.room;
    }

pub act-returns-in_ok-again-in-Abort : goal.act-returns-in_ok-again-in-Abort
act-returns-in_ok-again-in-Abort g t c =
    let v = g.T.Tx.view c.args.tx.now in
    let w = g.T.Tx.view c.ask.new.tx in
    record {
      met = c.ask.ensures.met;
      joined = joined_same _ _ _ c.ask.ensures.client;
      ok = λ rest.
          subst (λ d. Ended d c.args.of.now v.seen w.seen (put c.args.step.now rest) (finish.Stopped c.in_ok-again-in-Abort.again)) (sym c.ask.ensures.client)
          (subst (λ f. Ended v.client c.args.of.now v.seen w.seen (f rest) (finish.Stopped c.in_ok-again-in-Abort.again)) (sym (ap put c.in-Abort.is ∙ put_abort c.in-Abort.levels)) (c.in_ok-again-in-Abort.ensures.ok rest));
      cut = tt;
      room = tt;
    }

pub act-returns-in-Crash : goal.act-returns-in-Crash
act-returns-in-Crash g t c =
    let v = g.T.Tx.view c.args.tx.now in
    record {
      met = search rules;
      joined = subst (λ x. HasJoined v.client v.seen x.client) (sym c.crash.ensures.same) (joined_itself v.client v.seen);
      ok = subst (λ x. Acted x.client c.args.of.now v.seen x.seen (put c.args.step.now)) (sym c.crash.ensures.same)
          (acted_on v.client c.args.of.now v.seen v.seen (put c.args.step.now)
          (subst (WentOn v.client c.args.of.now v.seen v.seen) (sym (ap put c.in-Crash.is ∙ put_crash c.in-Crash.copy)) (crash_on v.client c.args.of.now c.in-Crash.copy v.seen c.requires.runs)));
      cut = tt;
      room = tt;
    }

pub act-returns-in_ok-mark-in-Kill : goal.act-returns-in_ok-mark-in-Kill
act-returns-in_ok-mark-in-Kill g t c =
    let v = g.T.Tx.view c.args.tx.now in
    let w = g.T.Tx.view c.mark.new.tx in
    record {
      met = c.mark.ensures.met;
      joined = joined_same _ _ _ c.mark.ensures.client;
      ok = subst (λ d. Acted d c.args.of.now v.seen w.seen (put c.args.step.now)) (sym c.mark.ensures.client)
          (subst (Acted v.client c.args.of.now v.seen w.seen) (sym (ap put c.in-Kill.is ∙ put_kill c.in-Kill.session)) c.in_ok-mark-in-Kill.ensures.ok);
      cut = tt;
      room = tt;
    }

-- where it was cut off

pub act-returns-in_err-again-in-Abort : goal.act-returns-in_err-again-in-Abort
act-returns-in_err-again-in-Abort g t c =
    let v = g.T.Tx.view c.args.tx.now in
    let w = g.T.Tx.view c.ask.new.tx in
    record {
      met = c.ask.ensures.met;
      joined = joined_same _ _ _ c.ask.ensures.client;
      ok = search rules;
      cut = subst (λ d. IfErr c.from_residual.result (λ _. (rest : Plan) → CutOff d c.args.of.now v.seen w.seen (put c.args.step.now rest))) (sym c.ask.ensures.client)
          (any_err ((rest : Plan) → CutOff v.client c.args.of.now v.seen w.seen (put c.args.step.now rest)) c.from_residual.result
          (λ rest. subst (λ f. CutOff v.client c.args.of.now v.seen w.seen (f rest)) (sym (ap put c.in-Abort.is ∙ put_abort c.in-Abort.levels)) (c.in_err-again-in-Abort.ensures.cut rest)));
      room = search rules;
    }

pub act-returns-in_err-mark-in-Kill : goal.act-returns-in_err-mark-in-Kill
act-returns-in_err-mark-in-Kill g t c =
    let v = g.T.Tx.view c.args.tx.now in
    let w = g.T.Tx.view c.mark.new.tx in
    record {
      met = c.mark.ensures.met;
      joined = joined_same _ _ _ c.mark.ensures.client;
      ok = search rules;
      cut = subst (λ d. IfErr c.from_residual-in_err-mark-in-Kill.result (λ _. (rest : Plan) → CutOff d c.args.of.now v.seen w.seen (put c.args.step.now rest))) (sym c.mark.ensures.client)
          (any_err ((rest : Plan) → CutOff v.client c.args.of.now v.seen w.seen (put c.args.step.now rest)) c.from_residual-in_err-mark-in-Kill.result
          (λ rest. subst (λ f. CutOff v.client c.args.of.now v.seen w.seen (f rest)) (sym (ap put c.in-Kill.is ∙ put_kill c.in-Kill.session))
          (cut_still v.client c.args.of.now v.seen w.seen c.requires.runs c.in_err-mark-in-Kill.ensures.cut (Plan.kill_then c.in-Kill.session rest))));
      room = search rules;
    }

-- BEHIND A STEP

pub step-returns-in-None : goal.step-returns-in-None
step-returns-in-None g t c =
    let v = g.T.Tx.view c.args.tx.now in
    let w = g.T.Tx.view c.act.new.tx in
    let x = g.T.Tx.view c.look.new.tx in
    let of = c.args.of.now in
    let acted = subst (HasActed w.client of v.seen w.seen (put c.args.step.now)) c.in-None.is c.in_ok-again.ensures.ok in
    record {
      met = c.look.ensures.met;
      joined = subst (HasJoined v.client v.seen) (sym c.look.ensures.client) c.act.ensures.joined;
      ok = subst (λ d. IfOk c.look.result (Stepped d of v.seen x.seen (put c.args.step.now))) (sym c.look.ensures.client)
          (if_ok (HasLooked w.client of w.seen x.seen) (Stepped w.client of v.seen x.seen (put c.args.step.now)) c.look.result (looked_behind w.client of v.seen w.seen (put c.args.step.now) acted x.seen) c.look.ensures.ok);
      cut = subst (λ d. IfErr c.look.result (λ _. (rest : Plan) → CutOff d of v.seen x.seen (put c.args.step.now rest))) (sym c.look.ensures.client)
          (if_err (Made w.client [] w.seen x.seen) ((rest : Plan) → CutOff w.client of v.seen x.seen (put c.args.step.now rest)) c.look.result (acted_cut w.client of v.seen w.seen (put c.args.step.now) acted x.seen) c.look.ensures.cut);
      room = c.look.ensures.room;
    }

-- STEPS

pub steps-returns-in_err-again : goal.steps-returns-in_err-again
steps-returns-in_err-again g t c =
    let v = g.T.Tx.view c.args.tx.now in
    let w = g.T.Tx.view c.look.new.tx in
    record {
      met = c.look.ensures.met;
      joined = joined_same _ _ _ c.look.ensures.client;
      ok = search rules;
      cut = any_err _ c.from_residual.result
          (subst (λ d. CutOff d c.args.of.now v.seen w.seen (plan_of c.args.steps.now)) (sym c.look.ensures.client) (cut_still v.client c.args.of.now v.seen w.seen c.requires.runs c.in_err-again.ensures.cut (plan_of c.args.steps.now)));
      room = search rules;
    }

pub steps-returns-in-Some : goal.steps-returns-in-Some
steps-returns-in-Some g t c =
    let v = g.T.Tx.view c.args.tx.now in
    let w = g.T.Tx.view c.look.new.tx in
    record {
      met = c.look.ensures.met;
      joined = joined_same _ _ _ c.look.ensures.client;
      ok = subst (λ d. Ended d c.args.of.now v.seen w.seen (plan_of c.args.steps.now) (finish.Stopped c.in-Some.again)) (sym c.look.ensures.client)
          (killed_first v.client c.args.of.now v.seen w.seen c.in-Some.again (plan_of c.args.steps.now) (subst (HasLooked v.client c.args.of.now v.seen w.seen) c.in-Some.is c.in_ok-again.ensures.ok));
      cut = tt;
      room = tt;
    }

pub steps-returns-in_err-again-2 : goal.steps-returns-in_err-again-2
steps-returns-in_err-again-2 g t c =
    let inv = c.loop-s.invariant in
    let v = g.T.Tx.view c.args.tx.now in
    let w = g.T.Tx.view c.loop-s.tx in
    let x = g.T.Tx.view c.step.new.tx in
    let of = c.args.of.now in
    let left = steps_joined w.client x.client of c.args.steps.now v.seen w.seen c.loop-s.s-index c.step.ensures.joined inv.left in
    record {
      met = c.step.ensures.met;
      joined = joined_trans v.client w.client x.client v.seen w.seen inv.joined inv.left.leaves.later c.step.ensures.joined;
      ok = search rules;
      cut = any_err _ c.from_residual-in_err-again-2.result
          (cut_there x.client of c.args.steps.now v.seen w.seen x.seen c.loop-s.s-index c.s-item.result left c.loop-s-test.true c.s-item.is c.in_err-again-2.ensures.cut);
      room = search rules;
    }

pub steps-returns : goal.steps-returns
steps-returns g t c =
    let v = g.T.Tx.view c.args.tx.now in
    let inv = c.loop-s.invariant in
    let w = g.T.Tx.view c.loop-s.tx in
    let x = g.T.Tx.view c.commit.new.tx in
    let of = c.args.of.now in
    record {
      met = c.commit.ensures.met;
      joined = subst (HasJoined v.client v.seen) (sym c.commit.ensures.client) c.loop-s.invariant.joined;
      ok = subst (λ d. IfOk c.commit.result (Ended d of v.seen x.seen (plan_of c.args.steps.now))) (sym c.commit.ensures.client)
          (if_ok (Ended w.client of w.seen x.seen Plan.done) (Ended w.client of v.seen x.seen (plan_of c.args.steps.now)) c.commit.result
          (λ again. all_done w.client of c.args.steps.now v.seen w.seen x.seen c.loop-s.s-index again inv.left c.loop-s-test.false) c.commit.ensures.ok);
      cut = subst (λ d. IfErr c.commit.result (λ _. CutOff d of v.seen x.seen (plan_of c.args.steps.now))) (sym c.commit.ensures.client)
          (if_err (CutOff w.client of w.seen x.seen Plan.done) (CutOff w.client of v.seen x.seen (plan_of c.args.steps.now)) c.commit.result
          (cut_at_last w.client of c.args.steps.now v.seen w.seen x.seen c.loop-s.s-index inv.left c.loop-s-test.false) c.commit.ensures.cut);
      room = c.commit.ensures.room;
    }

pub steps-step-requires : goal.steps-step-requires
steps-step-requires g t c κs within =
    let inv = c.loop-s.invariant in
    let v = g.T.Tx.view c.args.tx.now in
    let w = g.T.Tx.view c.loop-s.tx in
    let of = c.args.of.now in (
      omega (arith, step_lighter c.args.steps.now c.loop-s.s-index c.s-item.result c.loop-s-test.true c.s-item.is),
      (within.0, (within.1, (search rules, (search rules, (inv.left.runs, (fits_step w.client of c.args.steps.now v.seen w.seen w.seen c.loop-s.s-index c.s-item.result inv.left c.loop-s-test.true c.s-item.is, inv.met)))))),
    )

pub steps-returns-in-Some-2 : goal.steps-returns-in-Some-2
steps-returns-in-Some-2 g t c =
    let inv = c.loop-s.invariant in
    let v = g.T.Tx.view c.args.tx.now in
    let w = g.T.Tx.view c.loop-s.tx in
    let x = g.T.Tx.view c.step.new.tx in
    let of = c.args.of.now in
    let left = steps_joined w.client x.client of c.args.steps.now v.seen w.seen c.loop-s.s-index c.step.ensures.joined inv.left in
    record {
      met = c.step.ensures.met;
      joined = joined_trans v.client w.client x.client v.seen w.seen inv.joined inv.left.leaves.later c.step.ensures.joined;
      ok = stopped_there x.client of c.args.steps.now v.seen w.seen x.seen c.loop-s.s-index c.s-item.result left c.loop-s-test.true c.s-item.is (finish.Stopped c.in-Some-2.again)
          (subst (Stepped x.client of w.seen x.seen (put c.s-item.result)) c.in-Some-2.is c.in_ok-again-2.ensures.ok);
      cut = tt;
      room = tt;
    }

pub steps-loop-s-preserved : goal.steps-loop-s-preserved
steps-loop-s-preserved g t c =
    let inv = c.loop-s.invariant in
    let v = g.T.Tx.view c.args.tx.now in
    let w = g.T.Tx.view c.loop-s.tx in
    let x = g.T.Tx.view c.step.new.tx in
    let of = c.args.of.now in
    let left = steps_joined w.client x.client of c.args.steps.now v.seen w.seen c.loop-s.s-index c.step.ensures.joined inv.left in
    record {
      met = c.step.ensures.met;
      joined = joined_trans v.client w.client x.client v.seen w.seen inv.joined inv.left.leaves.later c.step.ensures.joined;
      left = one_done x.client of c.args.steps.now v.seen w.seen x.seen c.loop-s.s-index c.s-item.result left c.loop-s-test.true c.s-item.is (subst (Stepped x.client of w.seen x.seen (put c.s-item.result)) c.in_default-2.is c.in_ok-again-2.ensures.ok);
    }

pub tries-loop-init : goal.tries-loop-init
tries-loop-init g t c =
    let v = g.T.Tx.view c.args.tx.now in
    let b = numbered c.args.body.now in
    record {
      met = c.requires.met;
      joined = joined_itself v.client v.seen;
      left = subst (TriesLeft v.client c.args.of.now b v.seen v.seen None) (let e : b.tries ≡ b.tries - 0 = omega arith in e) (none_tried v.client c.args.of.now b v.seen c.requires.runs);
    }

pub steps-loop-s-init : goal.steps-loop-s-init
steps-loop-s-init g t c =
    let v = g.T.Tx.view c.args.tx.now in
    let w = g.T.Tx.view c.look.new.tx in
    let looked = subst (HasLooked v.client c.args.of.now v.seen w.seen) c.in_default.is c.in_ok-again.ensures.ok in
    record {
      met = c.look.ensures.met;
      joined = joined_same _ _ _ c.look.ensures.client;
      left = subst (λ d. StepsLeft d c.args.of.now c.args.steps.now v.seen w.seen 0) (sym c.look.ensures.client) (none_done v.client c.args.of.now c.args.steps.now v.seen w.seen c.requires.runs looked.0 c.requires.fits);
    }

-- THE TRIES OF A BRANCH

pub branch::branch_tries-loop-init : goal.branch::branch_tries-loop-init
branch::branch_tries-loop-init g t c =
    let v = g.T.Tx.view c.args.tx.now in
    record {
      met = c.requires.may.met;
      goes = record { joined = joined_itself v.client v.seen; later = later_itself v.client v.seen c.requires.may.legal; parent = c.requires.may.parent; root = c.requires.may.root };
      runs = may_start c.args.of.now v (numbered c.args.body.now) c.args.first.now c.requires.may;
    }

pub branch::branch_tries-steps-requires : goal.branch::branch_tries-steps-requires
branch::branch_tries-steps-requires g t c κs within =
    let inv = c.loop.invariant in
    let v = g.T.Tx.view c.args.tx.now in
    let w = g.T.Tx.view c.loop.tx in
    let body = numbered c.args.body.now in
    let same = plan_is c.args.body.now c.as_slice.result.now c.as_slice.ensures.value in
    let runs = try_starts w.client body inv.runs.0 c.loop.name w.seen (body.tries - c.loop.counter) inv.runs.1 in (
      omega (arith, ap weight same),
      (within.0, (within.1, (search rules, (search rules, (runs, (fits_try v.client w.client v.seen c.args.of.now c.loop.name body.plan (plan_of c.as_slice.result.now) inv.goes.joined inv.goes.root inv.runs.1.child same c.requires.may.fits, inv.met)))))),
    )

pub branch::branch_tries-steps-requires-2 : goal.branch::branch_tries-steps-requires-2
branch::branch_tries-steps-requires-2 g t c κs within =
    let inv = c.loop.invariant in
    let v = g.T.Tx.view c.args.tx.now in
    let w = g.T.Tx.view c.loop.tx in
    let body = numbered c.args.body.now in
    let same = plan_is c.args.body.now c.as_slice-2.result.now c.as_slice-2.ensures.value in
    let runs = try_starts w.client body inv.runs.0 c.loop.name w.seen (body.tries - c.loop.counter) inv.runs.1 in (
      omega (arith, ap weight same),
      (within.0, (within.1, (search rules, (search rules, (runs, (fits_try v.client w.client v.seen c.args.of.now c.loop.name body.plan (plan_of c.as_slice-2.result.now) inv.goes.joined inv.goes.root inv.runs.1.child same c.requires.may.fits, inv.met)))))),
    )

pub branch::branch_tries-returns-in_err-finish : goal.branch::branch_tries-returns-in_err-finish
branch::branch_tries-returns-in_err-finish g t c =
    let inv = c.loop.invariant in
    let v = g.T.Tx.view c.args.tx.now in
    let w = g.T.Tx.view c.loop.tx in
    let y = g.T.Tx.view c.steps.new.tx in
    let body = numbered c.args.body.now in
    let plan = plan_is c.args.body.now c.as_slice.result.now c.as_slice.ensures.value in
    let cut = branch_cut_off v w y c.args.of.now c.loop.name body c.loop.counter inv.goes inv.runs.0 inv.runs.1 c.steps.ensures.joined _ plan c.in_err-finish.ensures.cut in
    record { met = c.steps.ensures.met; joined = cut.0.joined; later = cut.0.later; ok = search rules; cut = any_err _ c.from_residual.result cut.1; room = search rules }

pub branch::branch_tries-returns-in_err-finish-2 : goal.branch::branch_tries-returns-in_err-finish-2
branch::branch_tries-returns-in_err-finish-2 g t c =
    let inv = c.loop.invariant in
    let v = g.T.Tx.view c.args.tx.now in
    let w = g.T.Tx.view c.loop.tx in
    let y = g.T.Tx.view c.steps-2.new.tx in
    let body = numbered c.args.body.now in
    let plan = plan_is c.args.body.now c.as_slice-2.result.now c.as_slice-2.ensures.value in
    let cut = branch_cut_off v w y c.args.of.now c.loop.name body c.loop.counter inv.goes inv.runs.0 inv.runs.1 c.steps-2.ensures.joined _ plan c.in_err-finish-2.ensures.cut in
    record { met = c.steps-2.ensures.met; joined = cut.0.joined; later = cut.0.later; ok = search rules; cut = any_err _ c.from_residual-in_err-finish-2.result cut.1; room = search rules }

pub branch::branch_tries-returns-then-not-is_again : goal.branch::branch_tries-returns-then-not-is_again
branch::branch_tries-returns-then-not-is_again g t c =
    let inv = c.loop.invariant in
    let v = g.T.Tx.view c.args.tx.now in
    let w = g.T.Tx.view c.loop.tx in
    let y = g.T.Tx.view c.steps.new.tx in
    let body = numbered c.args.body.now in
    let plan = plan_is c.args.body.now c.as_slice.result.now c.as_slice.ensures.value in
    let done = branch_ended v w y c.args.of.now c.loop.name body c.loop.counter inv.goes inv.runs.0 inv.runs.1 c.steps.ensures.joined _ plan c.in_ok-finish.finish c.in_ok-finish.ensures.ok in
    let ends = done.ends (λ again. absurd (true≢false (sym again ∙ (sym c.is_again.ensures ∙ c.if-not-is_again.true)))) in
    record { met = c.steps.ensures.met; joined = done.goes.joined; later = done.goes.later; ok = subst (TriesEnd y.client body y.seen) (sym c.last_came.ensures) ends; cut = tt; room = tt }

pub branch::branch_tries-begin-requires-clause-parent : goal.branch::branch_tries-begin-requires-clause-parent
branch::branch_tries-begin-requires-clause-parent g t c =
    let inv = c.loop.invariant in
    let v = g.T.Tx.view c.args.tx.now in
    let w = g.T.Tx.view c.loop.tx in
    let y = g.T.Tx.view c.steps.new.tx in
    let body = numbered c.args.body.now in
    let plan = plan_is c.args.body.now c.as_slice.result.now c.as_slice.ensures.value in
    inr (branch_ended v w y c.args.of.now c.loop.name body c.loop.counter inv.goes inv.runs.0 inv.runs.1 c.steps.ensures.joined _ plan c.in_ok-finish.finish c.in_ok-finish.ensures.ok).goes.parent

pub branch::branch_tries-returns-in-Short : goal.branch::branch_tries-returns-in-Short
branch::branch_tries-returns-in-Short g t c =
    let inv = c.loop.invariant in
    let v = g.T.Tx.view c.args.tx.now in
    let w = g.T.Tx.view c.loop.tx in
    let y = g.T.Tx.view c.steps.new.tx in
    let body = numbered c.args.body.now in
    let plan = plan_is c.args.body.now c.as_slice.result.now c.as_slice.ensures.value in
    let few : c.loop.counter < body.tries = subst (λ n. c.loop.counter < n) (sym (tries_of c.args.body.now)) c.loop-test.true in
    let again = sym c.is_again.ensures ∙ c.if-not-is_again.false in
    let x = g.T.Tx.view c.begin.new.self in
    let no = branch_refused v w y c.args.of.now c.loop.name body c.loop.counter inv.goes inv.runs.0 inv.runs.1 c.steps.ensures.joined _ plan c.in_ok-finish.finish c.in_ok-finish.ensures.ok few again x c.begin.ensures.client c.in-Err.why c.in-Err.ensures.err in
    record { met = c.begin.ensures.met; joined = no.goes.joined; later = no.goes.later; ok = tt; cut = no.ran Reach.cut_off; room = search rules }

pub branch::branch_tries-returns-in_default : goal.branch::branch_tries-returns-in_default
branch::branch_tries-returns-in_default g t c =
    let inv = c.loop.invariant in
    let v = g.T.Tx.view c.args.tx.now in
    let w = g.T.Tx.view c.loop.tx in
    let y = g.T.Tx.view c.steps.new.tx in
    let body = numbered c.args.body.now in
    let plan = plan_is c.args.body.now c.as_slice.result.now c.as_slice.ensures.value in
    let few : c.loop.counter < body.tries = subst (λ n. c.loop.counter < n) (sym (tries_of c.args.body.now)) c.loop-test.true in
    let again = sym c.is_again.ensures ∙ c.if-not-is_again.false in
    let x = g.T.Tx.view c.begin.new.self in
    let no = branch_refused v w y c.args.of.now c.loop.name body c.loop.counter inv.goes inv.runs.0 inv.runs.1 c.steps.ensures.joined _ plan c.in_ok-finish.finish c.in_ok-finish.ensures.ok few again x c.begin.ensures.client c.in-Err.why c.in-Err.ensures.err in
    record { met = c.begin.ensures.met; joined = no.goes.joined; later = no.goes.later; ok = (no.ran Reach.to_the_end, no.refused c.in_default.not-Short, no.due); cut = tt; room = tt }

pub branch::branch_tries-loop-preserved : goal.branch::branch_tries-loop-preserved
branch::branch_tries-loop-preserved g t c =
    let inv = c.loop.invariant in
    let v = g.T.Tx.view c.args.tx.now in
    let w = g.T.Tx.view c.loop.tx in
    let y = g.T.Tx.view c.steps.new.tx in
    let body = numbered c.args.body.now in
    let plan = plan_is c.args.body.now c.as_slice.result.now c.as_slice.ensures.value in
    let few : c.loop.counter < body.tries = subst (λ n. c.loop.counter < n) (sym (tries_of c.args.body.now)) c.loop-test.true in
    let again = sym c.is_again.ensures ∙ c.if-not-is_again.false in
    let x = g.T.Tx.view c.begin.new.self in
    let begun = subst (λ k. Made y.client (by_client y.client (event.Start c.in-Ok.next (kind.User y.client.session k)) ∷ []) y.seen x.seen) (sym (number_of c.args.body.now)) c.in-Ok.ensures.ok in
    let further = further_runs v w y c.args.of.now c.loop.name body c.loop.counter inv.goes inv.runs.0 inv.runs.1 c.steps.ensures.joined _ plan c.in_ok-finish.finish c.in_ok-finish.ensures.ok few again x c.begin.ensures.client c.in-Ok.next c.in-Ok.ensures.child begun in
    record { met = c.begin.ensures.met; goes = further.0; runs = (inv.runs.0, further.1) }

pub branch::branch_tries-returns : goal.branch::branch_tries-returns
branch::branch_tries-returns g t c =
    let inv = c.loop.invariant in
    let v = g.T.Tx.view c.args.tx.now in
    let w = g.T.Tx.view c.loop.tx in
    let y = g.T.Tx.view c.steps-2.new.tx in
    let body = numbered c.args.body.now in
    let plan = plan_is c.args.body.now c.as_slice-2.result.now c.as_slice-2.ensures.value in
    let over : body.tries ≤ c.loop.counter = subst (λ n. n ≤ c.loop.counter) (sym (tries_of c.args.body.now)) c.loop-test.false in
    let done = branch_ended v w y c.args.of.now c.loop.name body c.loop.counter inv.goes inv.runs.0 inv.runs.1 c.steps-2.ensures.joined _ plan c.in_ok-finish-2.finish c.in_ok-finish-2.ensures.ok in
    let ends = done.ends (λ again. let e : body.tries - c.loop.counter ≡ 0 = omega (arith, over) in e) in
    record { met = c.steps-2.ensures.met; joined = done.goes.joined; later = done.goes.later; ok = subst (TriesEnd y.client body y.seen) (sym c.last_came-2.ensures) ends; cut = tt; room = tt }

-- BRANCHES AT ONCE

pub row::run_all-for_each_mut-requires-clause-accepts : goal.row::run_all-for_each_mut-requires-clause-accepts
row::run_all-for_each_mut-requires-clause-accepts g t c κs within i p lt at =
    let view = g.T.Tx.view in
    let branches = c.args.branches.now in
    let heavy = row_heavier (λ b. numbered b.body.now) branches i p.now lt in (
      omega (arith, ap (λ b. weight (numbered b.body.now).plan) at, heavy),
      (
        λ a m. m,
        (λ a m. m, (subst (λ b. MayRun c.args.of.now (stands view b)) (sym at) (each_at (stands view) (MayRun c.args.of.now) branches i p.now lt c.requires.may), (search rules, search rules))),
      ),
    )

pub row::run_all-for_each_mut-returns : goal.row::run_all-for_each_mut-returns
row::run_all-for_each_mut-returns g t c = c.run_branch.ensures.ran

pub row::run_all-returns : goal.row::run_all-returns
row::run_all-returns g t c =
    let view = g.T.Tx.view in
    record {
      ran = pairs_at (stands view) HasRun c.args.branches.now c.for_each_mut.new.s c.for_each_mut.auto.s (λ i d lt.
          let r = (c.for_each_mut.ensures i d lt).1 in
          subst (λ (p : Held g.row.T.Denot × Held g.row.T.Denot). HasRun (stands view p.0) (stands view p.1)) (λ j. (r.argument_is j, r.left j)) r.call);
    }

pub row::par-returns-in_default : goal.row::par-returns-in_default
row::par-returns-in_default g t c =
    let v = g.T.Tx.view c.args.tx.now in
    record {
      met = c.requires.met;
      joined = joined_itself (g.T.Tx.view c.args.tx.now).client (g.T.Tx.view c.args.tx.now).seen;
      ok = tt;
      cut = λ rest. cut_still v.client c.args.of.now v.seen v.seen c.requires.runs (made_itself v.client v.seen c.requires.runs.legal) (row_step (map numbered c.args.bodies.now) rest);
      room = tt;
    }

pub row::par-begin_all-begun-requires-clause-depth : goal.row::par-begin_all-begun-requires-clause-depth
row::par-begin_all-begun-requires-clause-depth g t c = row_depth (g.T.Tx.view c.args.tx.now).client c.args.of.now (map numbered c.args.bodies.now) c.requires.fits

pub row::par-show_all-requires-clause-all_met : goal.row::par-show_all-requires-clause-all_met
row::par-show_all-requires-clause-all_met g t c =
    let st = stands g.T.Tx.view in
    subst (λ l. AllByRecursion (λ (b : StandingBranch). MeetsLink b.view) (map st l)) (sym c.as_mut_slice.ensures.value) c.begin_all-begun.ensures.all_met

pub row::par-run_all-requires : goal.row::par-run_all-requires
row::par-run_all-requires g t c κs within =
    let view = g.T.Tx.view in
    let st = stands view in
    let v = view c.args.tx.now in
    let w2 = view c.show_all.new.tx in
    let bodies = map numbered c.args.bodies.now in
    let n1 = c.show_all.new.branches in
    let long = c.show_all.auto.branches ∙ c.as_mut_slice.ensures.len in
    let back = c.as_mut_slice-in-Ok-begun.ensures.value ∙ kept_whole _ n1 _ long in
    let same : map (λ b. numbered b.body.now) c.as_mut_slice-in-Ok-begun.result.now ≡ bodies = ap (map (λ b. numbered b.body.now)) back ∙ bodies_begun st c.args.of.now v (view c.begin_all-begun.new.tx) w2 _ _ n1 bodies c.requires.runs c.requires.fits c.as_mut_slice.ensures.value c.show_all.ensures.shown c.show_all.ensures.client c.show_all.ensures.made c.in-Ok-begun.ensures.ok c.in-Ok-begun.ensures.all in (
      omega (arith, ap (λ l. weight (row_of l)) same),
      (within.0, (within.1, (search rules, (search rules, row_may st c.args.of.now v (view c.begin_all-begun.new.tx) w2 _ _ n1 bodies c.requires.runs c.requires.fits c.as_mut_slice.ensures.value c.show_all.ensures.shown c.show_all.ensures.client c.show_all.ensures.made c.in-Ok-begun.ensures.ok c.in-Ok-begun.ensures.all _ back)))),
    )

pub row::par-merge_all-requires-clause-out : goal.row::par-merge_all-requires-clause-out
row::par-merge_all-requires-clause-out g t c =
    let view = g.T.Tx.view in
    let st = stands view in
    let v = view c.args.tx.now in
    let w2 = view c.show_all.new.tx in
    let bodies = map numbered c.args.bodies.now in
    let n1 = c.show_all.new.branches in
    let long = c.show_all.auto.branches ∙ c.as_mut_slice.ensures.len in
    let back = c.as_mut_slice-in-Ok-begun.ensures.value ∙ kept_whole _ n1 _ long in
    let n2 = c.run_all.new.branches in
    let whole = kept_whole _ n2 _ (c.run_all.auto.branches ∙ (ap length back ∙ long)) in
    row_out st c.args.of.now v (view c.begin_all-begun.new.tx) w2 _ _ n1 bodies c.requires.runs c.requires.fits c.as_mut_slice.ensures.value c.show_all.ensures.shown c.show_all.ensures.client c.show_all.ensures.made c.in-Ok-begun.ensures.ok c.in-Ok-begun.ensures.all _ n2 back c.run_all.ensures.ran _ whole

pub row::par-returns-in_err-came-in-Ok-begun : goal.row::par-returns-in_err-came-in-Ok-begun
row::par-returns-in_err-came-in-Ok-begun g t c =
    let view = g.T.Tx.view in
    let st = stands view in
    let v = view c.args.tx.now in
    let w2 = view c.show_all.new.tx in
    let bodies = map numbered c.args.bodies.now in
    let n1 = c.show_all.new.branches in
    let long = c.show_all.auto.branches ∙ c.as_mut_slice.ensures.len in
    let back = c.as_mut_slice-in-Ok-begun.ensures.value ∙ kept_whole _ n1 _ long in
    let n2 = c.run_all.new.branches in
    let whole = kept_whole _ n2 _ (c.run_all.auto.branches ∙ (ap length back ∙ long)) in
    let w3 = view c.merge_all.new.tx in
    let row = row_done st c.args.of.now v (view c.begin_all-begun.new.tx) w2 _ _ n1 bodies c.requires.runs c.requires.fits c.as_mut_slice.ensures.value c.show_all.ensures.shown c.show_all.ensures.client c.show_all.ensures.made c.in-Ok-begun.ensures.ok c.in-Ok-begun.ensures.all _ n2 back c.run_all.ensures.ran _ whole w3 c.merge_all.ensures.merged in
    let came_to = sym (ap (λ l. row_came (Ok came.Through) (map st l)) whole) ∙ (sym c.merge_all.ensures.came ∙ c.in_err-came-in-Ok-begun.was) in
    record {
      met = c.merge_all.ensures.met;
      joined = done_joined row;
      ok = search rules;
      cut = any_err _ c.from_residual.result (done_cut row);
      room = same_err (IsWant w3.seen) c.from_residual.result c.in_err-came-in-Ok-begun.field-0.0 c.from_residual.ensures.1 (done_want row c.in_err-came-in-Ok-begun.field-0.0 came_to);
    }

pub row::par-behind-requires : goal.row::par-behind-requires
row::par-behind-requires g t c =
    let view = g.T.Tx.view in
    let st = stands view in
    let v = view c.args.tx.now in
    let w2 = view c.show_all.new.tx in
    let bodies = map numbered c.args.bodies.now in
    let n1 = c.show_all.new.branches in
    let long = c.show_all.auto.branches ∙ c.as_mut_slice.ensures.len in
    let back = c.as_mut_slice-in-Ok-begun.ensures.value ∙ kept_whole _ n1 _ long in
    let n2 = c.run_all.new.branches in
    let whole = kept_whole _ n2 _ (c.run_all.auto.branches ∙ (ap length back ∙ long)) in
    let w3 = view c.merge_all.new.tx in
    let row = row_done st c.args.of.now v (view c.begin_all-begun.new.tx) w2 _ _ n1 bodies c.requires.runs c.requires.fits c.as_mut_slice.ensures.value c.show_all.ensures.shown c.show_all.ensures.client c.show_all.ensures.made c.in-Ok-begun.ensures.ok c.in-Ok-begun.ensures.all _ n2 back c.run_all.ensures.ran _ whole w3 c.merge_all.ensures.merged in
    let came_to = sym (ap (λ l. row_came (Ok came.Through) (map st l)) whole) ∙ (sym c.merge_all.ensures.came ∙ c.in_ok-came-in-Ok-begun.was) in
    let x = c.in_ok-came-in-Ok-begun.came in
    record { runs = (done_out row x came_to).runs; knows = done_knows row x came_to; met = c.merge_all.ensures.met }

pub row::par-returns-in-Ok-begun : goal.row::par-returns-in-Ok-begun
row::par-returns-in-Ok-begun g t c =
    let view = g.T.Tx.view in
    let st = stands view in
    let v = view c.args.tx.now in
    let w2 = view c.show_all.new.tx in
    let bodies = map numbered c.args.bodies.now in
    let n1 = c.show_all.new.branches in
    let long = c.show_all.auto.branches ∙ c.as_mut_slice.ensures.len in
    let back = c.as_mut_slice-in-Ok-begun.ensures.value ∙ kept_whole _ n1 _ long in
    let n2 = c.run_all.new.branches in
    let whole = kept_whole _ n2 _ (c.run_all.auto.branches ∙ (ap length back ∙ long)) in
    let w3 = view c.merge_all.new.tx in
    let row = row_done st c.args.of.now v (view c.begin_all-begun.new.tx) w2 _ _ n1 bodies c.requires.runs c.requires.fits c.as_mut_slice.ensures.value c.show_all.ensures.shown c.show_all.ensures.client c.show_all.ensures.made c.in-Ok-begun.ensures.ok c.in-Ok-begun.ensures.all _ n2 back c.run_all.ensures.ran _ whole w3 c.merge_all.ensures.merged in
    let came_to = sym (ap (λ l. row_came (Ok came.Through) (map st l)) whole) ∙ (sym c.merge_all.ensures.came ∙ c.in_ok-came-in-Ok-begun.was) in
    let x = c.in_ok-came-in-Ok-begun.came in
    let y = view c.behind.new.tx in
    let client = sym c.behind.ensures.client in
    record {
      met = c.behind.ensures.met;
      joined = subst (HasJoined v.client v.seen) client (done_joined row);
      ok = subst (λ d. IfOk c.behind.result (HasActed d c.args.of.now v.seen y.seen (row_step bodies))) client
          (if_ok (WentBehind w3.client c.args.of.now w3.seen y.seen x) (HasActed w3.client c.args.of.now v.seen y.seen (row_step bodies)) c.behind.result (done_acted row x came_to y.seen) c.behind.ensures.ok);
      cut = subst (λ d. IfErr c.behind.result (λ _. (rest : Plan) → CutOff d c.args.of.now v.seen y.seen (row_step bodies rest))) client
          (if_err (Made w3.client [] w3.seen y.seen) ((rest : Plan) → CutOff w3.client c.args.of.now v.seen y.seen (row_step bodies rest)) c.behind.result (λ m rest. done_cut_behind row x came_to y.seen rest m) c.behind.ensures.cut);
      room = c.behind.ensures.room;
    }

-- WHERE NOT ALL COULD BE BEGUN

pub row::par-merge_all-came-requires-clause-out : goal.row::par-merge_all-came-requires-clause-out
row::par-merge_all-came-requires-clause-out g t c =
    let view = g.T.Tx.view in
    let st = stands view in
    let v = view c.args.tx.now in
    let w2 = view c.show_all.new.tx in
    let bodies = map numbered c.args.bodies.now in
    let n1 = c.show_all.new.branches in
    let long = c.show_all.auto.branches ∙ c.as_mut_slice.ensures.len in
    let whole = kept_whole _ n1 _ long in
    few_out st c.args.of.now v (view c.begin_all-begun.new.tx) w2 _ _ n1 bodies c.requires.runs c.requires.fits c.as_mut_slice.ensures.value c.show_all.ensures.shown c.show_all.ensures.client c.show_all.ensures.made c.in-Err.why c.in-Err.ensures.err _ whole

pub row::par-returns-in_default-firsts : goal.row::par-returns-in_default-firsts
row::par-returns-in_default-firsts g t c =
    let view = g.T.Tx.view in
    let st = stands view in
    let v = view c.args.tx.now in
    let w2 = view c.show_all.new.tx in
    let bodies = map numbered c.args.bodies.now in
    let n1 = c.show_all.new.branches in
    let long = c.show_all.auto.branches ∙ c.as_mut_slice.ensures.len in
    let whole = kept_whole _ n1 _ long in
    let w3 = view c.merge_all-came.new.tx in
    let row = row_turned st c.args.of.now v (view c.begin_all-begun.new.tx) w2 _ _ n1 bodies c.requires.runs c.requires.fits c.as_mut_slice.ensures.value c.show_all.ensures.shown c.show_all.ensures.client c.show_all.ensures.made c.in-Err.why c.in-Err.ensures.err _ whole w3 c.merge_all-came.ensures.merged c.in-Err.ensures.first _ refl in
    record { met = c.merge_all-came.ensures.met; joined = back_joined row; ok = tt; cut = turned_cut_at_once row; room = tt }

pub row::par-returns-in-Short : goal.row::par-returns-in-Short
row::par-returns-in-Short g t c =
    let view = g.T.Tx.view in
    let st = stands view in
    let v = view c.args.tx.now in
    let w2 = view c.show_all.new.tx in
    let bodies = map numbered c.args.bodies.now in
    let n1 = c.show_all.new.branches in
    let long = c.show_all.auto.branches ∙ c.as_mut_slice.ensures.len in
    let whole = kept_whole _ n1 _ long in
    let w3 = view c.merge_all-came.new.tx in
    let row = row_turned st c.args.of.now v (view c.begin_all-begun.new.tx) w2 _ _ n1 bodies c.requires.runs c.requires.fits c.as_mut_slice.ensures.value c.show_all.ensures.shown c.show_all.ensures.client c.show_all.ensures.made c.in-Err.why c.in-Err.ensures.err _ whole w3 c.merge_all-came.ensures.merged c.in-Err.ensures.first _ refl in
    let want = row_want st c.args.of.now v (view c.begin_all-begun.new.tx) w2 _ _ n1 bodies c.requires.runs c.requires.fits c.as_mut_slice.ensures.value c.show_all.ensures.shown c.show_all.ensures.client c.show_all.ensures.made c.in-Err.why c.in-Err.ensures.err _ whole w3 c.merge_all-came.ensures.merged c.in-Err.ensures.first _ refl c.show_all.auto.branches c.show_all.ensures.none c.in-Short.short c.in-Short.is in
    record { met = c.merge_all-came.ensures.met; joined = back_joined row; ok = tt; cut = turned_cut_at_once row; room = want }

pub row::par-abort_all-requires : goal.row::par-abort_all-requires
row::par-abort_all-requires g t c =
    let view = g.T.Tx.view in
    let st = stands view in
    let v = view c.args.tx.now in
    let w2 = view c.show_all.new.tx in
    let bodies = map numbered c.args.bodies.now in
    let n1 = c.show_all.new.branches in
    let long = c.show_all.auto.branches ∙ c.as_mut_slice.ensures.len in
    let whole = kept_whole _ n1 _ long in
    let firsts = c.as_slice-in_default-why.ensures.value ∙ (c.in-Ok-firsts.ensures ∙ ap (map (λ b. b.first)) (c.as_slice.ensures.value ∙ whole)) in
    let w3 = view c.merge_all-came.new.tx in
    let row = row_turned st c.args.of.now v (view c.begin_all-begun.new.tx) w2 _ _ n1 bodies c.requires.runs c.requires.fits c.as_mut_slice.ensures.value c.show_all.ensures.shown c.show_all.ensures.client c.show_all.ensures.made c.in-Err.why c.in-Err.ensures.err _ whole w3 c.merge_all-came.ensures.merged c.in-Err.ensures.first _ firsts in
    let refused = turned_refused_so row c.in_default-why.not-Short in
    record { nonroot = c.requires.runs.nonroot; legal = back_legal row; refused = refused; firsts = turned_are_firsts row; met = c.merge_all-came.ensures.met }

pub row::par-returns-in_err-abort_all-in_default-why : goal.row::par-returns-in_err-abort_all-in_default-why
row::par-returns-in_err-abort_all-in_default-why g t c =
    let view = g.T.Tx.view in
    let st = stands view in
    let v = view c.args.tx.now in
    let w2 = view c.show_all.new.tx in
    let bodies = map numbered c.args.bodies.now in
    let n1 = c.show_all.new.branches in
    let long = c.show_all.auto.branches ∙ c.as_mut_slice.ensures.len in
    let whole = kept_whole _ n1 _ long in
    let firsts = c.as_slice-in_default-why.ensures.value ∙ (c.in-Ok-firsts.ensures ∙ ap (map (λ b. b.first)) (c.as_slice.ensures.value ∙ whole)) in
    let w3 = view c.merge_all-came.new.tx in
    let row = row_turned st c.args.of.now v (view c.begin_all-begun.new.tx) w2 _ _ n1 bodies c.requires.runs c.requires.fits c.as_mut_slice.ensures.value c.show_all.ensures.shown c.show_all.ensures.client c.show_all.ensures.made c.in-Err.why c.in-Err.ensures.err _ whole w3 c.merge_all-came.ensures.merged c.in-Err.ensures.first _ firsts in
    let x = view c.abort_all.new.tx in
    let client = sym c.abort_all.ensures.client in
    record {
      met = c.abort_all.ensures.met;
      joined = subst (HasJoined v.client v.seen) client (back_joined row);
      ok = search rules;
      cut = any_err _ c.from_residual-in_err-abort_all-in_default-why.result (λ rest. subst (λ d. CutOff d c.args.of.now v.seen x.seen (row_step bodies rest)) client (turned_cut_off row x.seen rest c.in_err-abort_all-in_default-why.ensures.cut));
      room = search rules;
    }

pub row::par-behind-requires-in_default-why : goal.row::par-behind-requires-in_default-why
row::par-behind-requires-in_default-why g t c =
    let view = g.T.Tx.view in
    let st = stands view in
    let v = view c.args.tx.now in
    let w2 = view c.show_all.new.tx in
    let bodies = map numbered c.args.bodies.now in
    let n1 = c.show_all.new.branches in
    let long = c.show_all.auto.branches ∙ c.as_mut_slice.ensures.len in
    let whole = kept_whole _ n1 _ long in
    let firsts = c.as_slice-in_default-why.ensures.value ∙ (c.in-Ok-firsts.ensures ∙ ap (map (λ b. b.first)) (c.as_slice.ensures.value ∙ whole)) in
    let w3 = view c.merge_all-came.new.tx in
    let row = row_turned st c.args.of.now v (view c.begin_all-begun.new.tx) w2 _ _ n1 bodies c.requires.runs c.requires.fits c.as_mut_slice.ensures.value c.show_all.ensures.shown c.show_all.ensures.client c.show_all.ensures.made c.in-Err.why c.in-Err.ensures.err _ whole w3 c.merge_all-came.ensures.merged c.in-Err.ensures.first _ firsts in
    let refused = turned_refused_so row c.in_default-why.not-Short in
    let x = view c.abort_all.new.tx in
    let turned = c.in_ok-abort_all-in_default-why.ensures.ok in
    let client = sym c.abort_all.ensures.client in
    record {
      runs = subst (λ d. Runs d c.args.of.now x.seen) client (turned_row_out row refused x.seen turned).runs;
      knows = subst (λ d. WhyStop d x.seen c.args.of.now c.in-Err.why) client (turned_knows row refused x.seen turned);
      met = c.abort_all.ensures.met;
    }

pub row::par-returns : goal.row::par-returns
row::par-returns g t c =
    let view = g.T.Tx.view in
    let st = stands view in
    let v = view c.args.tx.now in
    let w2 = view c.show_all.new.tx in
    let bodies = map numbered c.args.bodies.now in
    let n1 = c.show_all.new.branches in
    let long = c.show_all.auto.branches ∙ c.as_mut_slice.ensures.len in
    let whole = kept_whole _ n1 _ long in
    let firsts = c.as_slice-in_default-why.ensures.value ∙ (c.in-Ok-firsts.ensures ∙ ap (map (λ b. b.first)) (c.as_slice.ensures.value ∙ whole)) in
    let w3 = view c.merge_all-came.new.tx in
    let row = row_turned st c.args.of.now v (view c.begin_all-begun.new.tx) w2 _ _ n1 bodies c.requires.runs c.requires.fits c.as_mut_slice.ensures.value c.show_all.ensures.shown c.show_all.ensures.client c.show_all.ensures.made c.in-Err.why c.in-Err.ensures.err _ whole w3 c.merge_all-came.ensures.merged c.in-Err.ensures.first _ firsts in
    let refused = turned_refused_so row c.in_default-why.not-Short in
    let of = c.args.of.now in
    let why = c.in-Err.why in
    let x = view c.abort_all.new.tx in
    let turned = c.in_ok-abort_all-in_default-why.ensures.ok in
    let y = view c.behind-in_default-why.new.tx in
    let same = c.abort_all.ensures.client in
    let client = sym (c.behind-in_default-why.ensures.client ∙ same) in
    record {
      met = c.behind-in_default-why.ensures.met;
      joined = subst (HasJoined v.client v.seen) client (back_joined row);
      ok = subst (λ d. IfOk c.behind-in_default-why.result (HasActed d of v.seen y.seen (row_step bodies))) client
          (if_ok (WentBehind x.client of x.seen y.seen (came.Refused why)) (HasActed w3.client of v.seen y.seen (row_step bodies)) c.behind-in_default-why.result
          (λ r went. turned_acted row refused x.seen turned y.seen r (subst (λ d. WentBehind d of x.seen y.seen (came.Refused why) r) same went)) c.behind-in_default-why.ensures.ok);
      cut = subst (λ d. IfErr c.behind-in_default-why.result (λ _. (rest : Plan) → CutOff d of v.seen y.seen (row_step bodies rest))) client
          (if_err (Made x.client [] x.seen y.seen) ((rest : Plan) → CutOff w3.client of v.seen y.seen (row_step bodies rest)) c.behind-in_default-why.result
          (λ m rest. turned_cut_behind row refused x.seen turned y.seen rest (subst (λ (d : Client). Made d [] x.seen y.seen) same m)) c.behind-in_default-why.ensures.cut);
      room = c.behind-in_default-why.ensures.room;
    }

-- A BRANCH

pub branch::run_branch-returns : goal.branch::run_branch-returns
branch::run_branch-returns g t c =
    let view = g.T.Tx.view in
    let old : StandingBranch = stands view c.args.branch.now in
    let now : ClientView → StandingBranch = λ v. record { view = v; body = old.body; first = old.first; came = Some c.branch_tries-came.result } in
    let ran : HasRun old (now (view c.branch_tries-came.new.tx)) = search rules in
    record { ran = subst (λ v. HasRun old (now v)) (sym c.rest.ensures.same) ran }
