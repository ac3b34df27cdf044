use Rattle.std.proofs.Common.{rules, ◌≡◌, ◌<◌, ◌-◌, [], length, true, sym, ◌∙◌, subst, arith}
use Rattle.qc_event.specs.History.{Name, is_child}
use Rattle.qc_script.specs.Client.{Client, HasJoined}
use Rattle.qc_script.specs.Plan.{PlanFits}
use Rattle.qc_script.specs.Steps.{plan_of, numbered}
use Rattle.qc_interp.specs.Running.{Runs}
use Rattle.qc_interp.proofs.Sessions.TopAnswers.{ran_top, top_unbegun}
use Rattle.qc_interp.proofs.Trying.ChildAnswers.{fits_child}
use Rattle.qc_interp.proofs.Stepping.Plans.{plan_is, tries_of, number_of}
use Rattle.qc_interp.proofs.Branching.Joined.{joined_itself, joined_root}
use Rattle.qc_interp.proofs.Sessions.TopLoops.{TopTriesLeft, no_top, tops_out}
use Rattle.qc_interp.proofs.Sessions.TopsRun.{runs_top}
use Rattle.qc_interp.proofs.Stepping.Results.{any_err}
use Rattle.qc_interp.proofs.tops.top_tries.Goals as goal

-- the parent of a top is the root of all
top_of : (root n : Name) → root ≡ [] → is_child root n ≡ true → is_child [] n ≡ true
top_of root n is child = subst (λ r. is_child r n ≡ true) is child

pub steps-requires-clause-runs : goal.steps-requires-clause-runs
steps-requires-clause-runs g c κs within =
    let inv = c.loop.invariant in
    let v = g.T.Tx.view c.args.tx.now in
    let w = g.T.Tx.view c.loop.tx in
    let x = g.T.Tx.view c.begin.new.self in
    let body = c.args.body.now in
    subst (λ d. Runs d c.in-Ok.name x.seen) (sym c.begin.ensures.client)
    (runs_top w.client c.in-Ok.name _ w.seen x.seen (top_of c.root.result c.in-Ok.name c.root.ensures c.in-Ok.ensures.child) c.in-Ok.ensures.ok (joined_root v.client w.client v.seen inv.joined ∙ c.requires.rootless))

pub steps-requires-clause-fits : goal.steps-requires-clause-fits
steps-requires-clause-fits g c κs within =
    let v = g.T.Tx.view c.args.tx.now in
    let w = g.T.Tx.view c.loop.tx in
    let n = c.in-Ok.name in
    let top = top_of c.root.result n c.root.ensures c.in-Ok.ensures.child in
    let plan = plan_is c.args.body.now c.as_slice.result.now c.as_slice.ensures.value in
    subst (λ (d : Client). PlanFits d.setting (length n) (plan_of c.as_slice.result.now)) (sym c.begin.ensures.client) (fits_child v.client w.client v.seen [] n _ _ c.loop.invariant.joined top plan c.requires.fits)

pub returns-then-not-is_again : goal.returns-then-not-is_again
returns-then-not-is_again g c =
    let inv = c.loop.invariant in
    let v = g.T.Tx.view c.args.tx.now in
    let w = g.T.Tx.view c.loop.tx in
    let x = g.T.Tx.view c.begin.new.self in
    let y = g.T.Tx.view c.steps.new.tx in
    let body = numbered c.args.body.now in
    let few : c.loop.counter < body.tries = subst (λ n. c.loop.counter < n) (sym (tries_of c.args.body.now)) c.loop-test.true in
    let plan = plan_is c.args.body.now c.as_slice.result.now c.as_slice.ensures.value in
    let top = top_of c.root.result c.in-Ok.name c.root.ensures c.in-Ok.ensures.child in
    let ran = ran_top v w x body c.loop.counter inv.left few c.begin.ensures.client y c.in-Ok.name top _ (sym (number_of c.args.body.now)) c.in-Ok.ensures.ok c.in-Ok.ensures.number c.steps.ensures.joined _ plan in
    let out = ran.out c.in_ok-steps-in-Ok.field-0 c.in_ok-steps-in-Ok.ensures.ok (sym c.is_again.ensures ∙ c.if-not-is_again.true) in
    record { met = c.steps.ensures.met; joined = ran.joined inv.joined; ok = out; cut = tt; room = tt }

pub loop-preserved : goal.loop-preserved
loop-preserved g c =
    let inv = c.loop.invariant in
    let v = g.T.Tx.view c.args.tx.now in
    let w = g.T.Tx.view c.loop.tx in
    let x = g.T.Tx.view c.begin.new.self in
    let y = g.T.Tx.view c.steps.new.tx in
    let body = numbered c.args.body.now in
    let few : c.loop.counter < body.tries = subst (λ n. c.loop.counter < n) (sym (tries_of c.args.body.now)) c.loop-test.true in
    let plan = plan_is c.args.body.now c.as_slice.result.now c.as_slice.ensures.value in
    let top = top_of c.root.result c.in-Ok.name c.root.ensures c.in-Ok.ensures.child in
    let ran = ran_top v w x body c.loop.counter inv.left few c.begin.ensures.client y c.in-Ok.name top _ (sym (number_of c.args.body.now)) c.in-Ok.ensures.ok c.in-Ok.ensures.number c.steps.ensures.joined _ plan in
    let more = ran.more c.in_ok-steps-in-Ok.field-0 c.in_ok-steps-in-Ok.ensures.ok (sym c.is_again.ensures ∙ c.if-not-is_again.false) in
    record { met = c.steps.ensures.met; joined = ran.joined inv.joined; left = more }

pub loop-init : goal.loop-init
loop-init g c =
    let v = g.T.Tx.view c.args.tx.now in
    let b = numbered c.args.body.now in
    record { met = c.requires.met; joined = joined_itself v.client v.seen; left = subst (TopTriesLeft v.client b v.seen v.seen) (let e : b.tries ≡ b.tries - 0 = omega arith in e) (no_top v.client b v.seen c.requires.legal) }

pub returns-clause-ok : goal.returns-clause-ok
returns-clause-ok g c =
    let v = g.T.Tx.view c.args.tx.now in
    let w = g.T.Tx.view c.loop.tx in
    let b = numbered c.args.body.now in
    tops_out w.client b v.seen w.seen (subst (TopTriesLeft w.client b v.seen w.seen) (let e : b.tries - c.loop.counter ≡ 0 = omega (arith, tries_of c.args.body.now, c.loop-test.false) in e) c.loop.invariant.left)

-- WHERE IT WAS CUT OFF

pub returns-in_err-steps-in-Ok : goal.returns-in_err-steps-in-Ok
returns-in_err-steps-in-Ok g c =
    let inv = c.loop.invariant in
    let v = g.T.Tx.view c.args.tx.now in
    let w = g.T.Tx.view c.loop.tx in
    let x = g.T.Tx.view c.begin.new.self in
    let y = g.T.Tx.view c.steps.new.tx in
    let body = numbered c.args.body.now in
    let few : c.loop.counter < body.tries = subst (λ n. c.loop.counter < n) (sym (tries_of c.args.body.now)) c.loop-test.true in
    let plan = plan_is c.args.body.now c.as_slice.result.now c.as_slice.ensures.value in
    let top = top_of c.root.result c.in-Ok.name c.root.ensures c.in-Ok.ensures.child in
    let ran = ran_top v w x body c.loop.counter inv.left few c.begin.ensures.client y c.in-Ok.name top _ (sym (number_of c.args.body.now)) c.in-Ok.ensures.ok c.in-Ok.ensures.number c.steps.ensures.joined _ plan in
    record { met = c.steps.ensures.met; joined = ran.joined inv.joined; ok = search rules; cut = any_err _ c.from_residual.result (ran.cut c.in_err-steps-in-Ok.ensures.cut); room = search rules }

pub returns-in-Err-Short : goal.returns-in-Err-Short
returns-in-Err-Short g c =
    let inv = c.loop.invariant in
    let v = g.T.Tx.view c.args.tx.now in
    let w = g.T.Tx.view c.loop.tx in
    let x = g.T.Tx.view c.begin.new.self in
    let body = numbered c.args.body.now in
    let few : c.loop.counter < body.tries = subst (λ n. c.loop.counter < n) (sym (tries_of c.args.body.now)) c.loop-test.true in
    record { met = c.begin.ensures.met; joined = subst (HasJoined v.client v.seen) (sym c.begin.ensures.client) inv.joined; ok = tt; cut = top_unbegun v w x body c.loop.counter inv.left few c.begin.ensures.client c.root.result c.in-Err-Short.field-0 c.in-Err-Short.ensures.err; room = search rules }

pub returns-in-Err : goal.returns-in-Err
returns-in-Err g c =
    let inv = c.loop.invariant in
    let v = g.T.Tx.view c.args.tx.now in
    let w = g.T.Tx.view c.loop.tx in
    let x = g.T.Tx.view c.begin.new.self in
    let body = numbered c.args.body.now in
    let few : c.loop.counter < body.tries = subst (λ n. c.loop.counter < n) (sym (tries_of c.args.body.now)) c.loop-test.true in
    record { met = c.begin.ensures.met; joined = subst (HasJoined v.client v.seen) (sym c.begin.ensures.client) inv.joined; ok = tt; cut = top_unbegun v w x body c.loop.counter inv.left few c.begin.ensures.client c.root.result c.in-Err.field-0 c.in-Err.ensures.err; room = tt }
