-- A manager puts until it has put enough, or no copy is left to ask.
use Rattle.std.proofs.Common.{refl}
use Rattle.std.proofs.lemmas.Result.{err_from_is_err_and}
use Rattle.qc_managers.specs.Answered.{told_in}
use Rattle.qc_managers.proofs.Putting.{putting_begins, has_put, asks_next, is_short, copy_within, may_go_on, puts_on, fewer_left, short_disturbed}
use Rattle.qc_managers.proofs.Served.{served_further}
use Rattle.qc_managers.proofs.placing.put.Goals as goal
use Rattle.qc_managers.proofs.Undisturbed.{refused_on, complete_on}

pub loop-puts-init : goal.loop-puts-init
loop-puts-init g c = record { met = putting_begins _ c.args.manager.now g.kind c.args.rec c.args.config.now c.args.phase c.args.op.now c.new-puts.result c.requires.1 c.new-puts.ensures; became = g.met.C.Carrier.became_itself c.args.carrier.now }

pub returns-in-Enough-clause-served : goal.returns-in-Enough-clause-served
returns-in-Enough-clause-served g c = c.loop-puts.invariant.met.served

pub returns-in-Enough-clause-put : goal.returns-in-Enough-clause-put
returns-in-Enough-clause-put g c = has_put _ _ _ _ _ _ _ c.loop-puts.invariant.met c.args.rec c.args.op.now c.requires.1 (c.in-Enough.ensures.next c.args.config.now c.args.phase (told_in (g.C.Carrier.view c.loop-puts.carrier).seen c.args.manager.now c.args.phase) c.loop-puts.invariant.met.kept_is)

pub returns-in-Short-clause-served : goal.returns-in-Short-clause-served
returns-in-Short-clause-served g c = c.loop-puts.invariant.met.served

pub returns-in-Short-clause-refused : goal.returns-in-Short-clause-refused
returns-in-Short-clause-refused g c =
    let told = told_in (g.C.Carrier.view c.loop-puts.carrier).seen c.args.manager.now c.args.phase in
    is_short _ _ _ _ _ _ _ c.loop-puts.invariant.met c.args.rec c.args.op.now c.requires.1 c.lack.result c.from.result c.from.ensures (c.lack.ensures c.args.config.now c.args.phase told c.loop-puts.invariant.met.kept_is) (c.in-Short.ensures.next c.args.config.now c.args.phase told c.loop-puts.invariant.met.kept_is)

pub returns-in-Short-clause-complete : goal.returns-in-Short-clause-complete
returns-in-Short-clause-complete g c = λ u. absurd (short_disturbed _ _ _ _ _ _ _ c.loop-puts.invariant.met c.args.rec c.args.op.now c.requires.1 (c.in-Short.ensures.within refl) (c.in-Short.ensures.next c.args.config.now c.args.phase (told_in (g.C.Carrier.view c.loop-puts.carrier).seen c.args.manager.now c.args.phase) c.loop-puts.invariant.met.kept_is) u)

pub request-requires : goal.request-requires
request-requires g c κs within = (within, (may_go_on _ _ _ _ _ _ _ c.loop-puts.invariant.met, asks_next _ _ _ _ _ _ _ c.loop-puts.invariant.met c.args.rec c.args.op.now c.requires.1 c.in-Copy.copy (c.in-Copy.ensures.next c.args.config.now c.args.phase (told_in (g.C.Carrier.view c.loop-puts.carrier).seen c.args.manager.now c.args.phase) c.loop-puts.invariant.met.kept_is)))

pub returns-in_err-carried-in-Copy-clause-served : goal.returns-in_err-carried-in-Copy-clause-served
returns-in_err-carried-in-Copy-clause-served g c = served_further c.args.manager.now _ _ _ c.loop-puts.invariant.met.served c.request.ensures.served

pub returns-in_err-carried-in-Copy-clause-refused : goal.returns-in_err-carried-in-Copy-clause-refused
returns-in_err-carried-in-Copy-clause-refused g c =
    let p = err_from_is_err_and c.from_residual.result c.from_residual.ensures.1 in
    rw (p.1, p.2) (refused_on _ _ _ _ c.loop-puts.invariant.met.served (g.C.Carrier.view c.request.new.carrier).seen c.in_err-carried-in-Copy.field-0.0 c.in_err-carried-in-Copy.ensures.refused)

pub returns-in_err-carried-in-Copy-clause-complete : goal.returns-in_err-carried-in-Copy-clause-complete
returns-in_err-carried-in-Copy-clause-complete g c =
    let p = err_from_is_err_and c.from_residual.result c.from_residual.ensures.1 in
    rw (p.1, p.2) (complete_on _ _ _ _ c.loop-puts.invariant.met.served (g.C.Carrier.view c.request.new.carrier).seen (g.C.Carrier.view c.request.new.carrier).troubles c.in_err-carried-in-Copy.field-0.0 c.in_err-carried-in-Copy.ensures.complete)

pub returns-in_err-carried-in-Copy-clause-became : goal.returns-in_err-carried-in-Copy-clause-became
returns-in_err-carried-in-Copy-clause-became g c = g.met.C.Carrier.became_by_both _ _ _ c.loop-puts.invariant.became c.request.ensures.became

pub hear-requires : goal.hear-requires
hear-requires g c = copy_within _ _ _ _ _ _ _ c.loop-puts.invariant.met c.in-Copy.copy (c.in-Copy.ensures.next c.args.config.now c.args.phase (told_in (g.C.Carrier.view c.loop-puts.carrier).seen c.args.manager.now c.args.phase) c.loop-puts.invariant.met.kept_is)

pub loop-puts-smaller : goal.loop-puts-smaller
loop-puts-smaller g c = fewer_left _ _ _ _ _ _ _ c.loop-puts.invariant.met c.args.rec c.args.op.now c.requires.1 _ _ c.request.ensures.served c.in_ok-carried-in-Copy.ensures.heard c.in-Copy.copy (c.in-Copy.ensures.next c.args.config.now c.args.phase (told_in (g.C.Carrier.view c.loop-puts.carrier).seen c.args.manager.now c.args.phase) c.loop-puts.invariant.met.kept_is) refl

pub loop-puts-preserved : goal.loop-puts-preserved
loop-puts-preserved g c =
    record {
      met = puts_on _ _ _ _ _ _ _ c.loop-puts.invariant.met c.args.rec c.args.op.now c.requires.1 _ _ c.request.ensures.served c.in_ok-carried-in-Copy.ensures.heard c.in_ok-carried-in-Copy.ensures.cause c.hear.new.puts (c.hear.ensures c.args.config.now c.args.phase (told_in (g.C.Carrier.view c.loop-puts.carrier).seen c.args.manager.now c.args.phase) c.loop-puts.invariant.met.kept_is);
      became = g.met.C.Carrier.became_by_both _ _ _ c.loop-puts.invariant.became c.request.ensures.became;
    }
