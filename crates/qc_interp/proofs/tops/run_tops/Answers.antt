use Rattle.std.proofs.Common.{arith}
use Rattle.qc_interp.proofs.Stepping.Results.{any_err}
use Rattle.qc_interp.proofs.Branching.Joined.{joined_itself, joined_trans}
use Rattle.qc_interp.proofs.Sessions.TopLoops.{bodies_joined, one_body, no_body, bodies_cut, all_bodies}
use Rattle.qc_interp.proofs.tops.run_tops.Goals as goal

pub loop-body-preserved : goal.loop-body-preserved
loop-body-preserved g c =
    let inv = c.loop-body.invariant in
    let v = g.T.Tx.view c.args.tx.now in
    let w = g.T.Tx.view c.loop-body.tx in
    let x = g.T.Tx.view c.top_tries.new.tx in
    let j = c.top_tries.ensures.joined in
    let left = bodies_joined w.client x.client c.args.bodies.now v.seen w.seen c.loop-body.body-index j inv.left in
    record {
      met = c.top_tries.ensures.met;
      joined = joined_trans v.client w.client x.client v.seen w.seen inv.joined inv.left.later j;
      left = one_body x.client c.args.bodies.now v.seen w.seen x.seen c.loop-body.body-index c.body-item.result left c.loop-body-test.true c.body-item.is c.in_ok-top_tries.ensures.ok;
    }

pub loop-body-init : goal.loop-body-init
loop-body-init g c =
    let v = g.T.Tx.view c.args.tx.now in
    record { met = c.requires.met; joined = joined_itself v.client v.seen; left = no_body v.client c.args.bodies.now v.seen c.requires.legal c.requires.fits }

pub returns-clause-ok : goal.returns-clause-ok
returns-clause-ok g c =
    let v = g.T.Tx.view c.args.tx.now in
    let w = g.T.Tx.view c.loop-body.tx in
    all_bodies w.client c.args.bodies.now v.seen w.seen c.loop-body.body-index c.loop-body.invariant.left (omega (arith, c.loop-body-test.false))

pub returns-in_err-top_tries-clause-joined : goal.returns-in_err-top_tries-clause-joined
returns-in_err-top_tries-clause-joined g c =
    let inv = c.loop-body.invariant in
    let v = g.T.Tx.view c.args.tx.now in
    let w = g.T.Tx.view c.loop-body.tx in
    let x = g.T.Tx.view c.top_tries.new.tx in
    joined_trans v.client w.client x.client v.seen w.seen inv.joined inv.left.later c.top_tries.ensures.joined

pub returns-in_err-top_tries-clause-cut : goal.returns-in_err-top_tries-clause-cut
returns-in_err-top_tries-clause-cut g c =
    let inv = c.loop-body.invariant in
    let v = g.T.Tx.view c.args.tx.now in
    let w = g.T.Tx.view c.loop-body.tx in
    let x = g.T.Tx.view c.top_tries.new.tx in
    let left = bodies_joined w.client x.client c.args.bodies.now v.seen w.seen c.loop-body.body-index c.top_tries.ensures.joined inv.left in
    any_err _ c.from_residual.result
    (bodies_cut x.client c.args.bodies.now v.seen w.seen x.seen c.loop-body.body-index c.body-item.result left c.loop-body-test.true c.body-item.is c.in_err-top_tries.ensures.cut)
