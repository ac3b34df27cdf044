-- A manager collects until it has enough, or no copy is left to ask.
use Rattle.std.proofs.Common.{refl}
use Rattle.std.proofs.lemmas.Result.{err_from_is_err_and}
use Rattle.qc_event.specs.declared.event.Phase.TheVariants.{Collect}
use Rattle.qc_managers.specs.Answered.{told_in}
use Rattle.qc_managers.proofs.Collecting.{collecting_begins, collected, asks_next, is_short, copy_within, may_go_on, collects_on, fewer_left, short_disturbed}
use Rattle.qc_managers.proofs.Served.{served_further}
use Rattle.qc_managers.proofs.collection.collect.Goals as goal
use Rattle.qc_managers.proofs.Undisturbed.{refused_on, complete_on}

pub loop-gather-init : goal.loop-gather-init
loop-gather-init g c = record { met = collecting_begins _ c.args.manager.now g.kind c.args.rec c.args.first.now c.new-gather.result c.requires.1 c.new-gather.ensures; became = g.met.C.Carrier.became_itself c.args.carrier.now }

pub returns-in-Enough-clause-served : goal.returns-in-Enough-clause-served
returns-in-Enough-clause-served g c = c.loop-gather.invariant.met.served

pub returns-in-Enough-clause-collected : goal.returns-in-Enough-clause-collected
returns-in-Enough-clause-collected g c = collected _ _ _ _ _ _ c.loop-gather.invariant.met (c.in-Enough.ensures.next c.args.first.now (told_in (g.C.Carrier.view c.loop-gather.carrier).seen c.args.manager.now Collect) c.loop-gather.invariant.met.kept_is)

pub returns-in-Short-clause-served : goal.returns-in-Short-clause-served
returns-in-Short-clause-served g c = c.loop-gather.invariant.met.served

pub returns-in-Short-clause-refused : goal.returns-in-Short-clause-refused
returns-in-Short-clause-refused g c =
    let told = told_in (g.C.Carrier.view c.loop-gather.carrier).seen c.args.manager.now Collect in
    is_short _ _ _ _ _ _ c.loop-gather.invariant.met c.args.rec c.requires.1 c.lack.result c.from.result c.from.ensures (c.lack.ensures c.args.first.now told c.loop-gather.invariant.met.kept_is) (c.in-Short.ensures.next c.args.first.now told c.loop-gather.invariant.met.kept_is)

pub returns-in-Short-clause-complete : goal.returns-in-Short-clause-complete
returns-in-Short-clause-complete g c = λ u. absurd (short_disturbed _ _ _ _ _ _ c.loop-gather.invariant.met c.args.rec c.requires.1 (c.in-Short.ensures.within refl) (c.in-Short.ensures.next c.args.first.now (told_in (g.C.Carrier.view c.loop-gather.carrier).seen c.args.manager.now Collect) c.loop-gather.invariant.met.kept_is) u)

pub request-requires : goal.request-requires
request-requires g c κs within =
    (within, (may_go_on _ _ _ _ _ _ c.loop-gather.invariant.met, asks_next _ _ _ _ _ _ c.loop-gather.invariant.met c.args.rec c.requires.1 c.in-Copy.copy (c.in-Copy.ensures.next c.args.first.now (told_in (g.C.Carrier.view c.loop-gather.carrier).seen c.args.manager.now Collect) c.loop-gather.invariant.met.kept_is)))

pub returns-in_err-carried-in-Copy-clause-served : goal.returns-in_err-carried-in-Copy-clause-served
returns-in_err-carried-in-Copy-clause-served g c = served_further c.args.manager.now _ _ _ c.loop-gather.invariant.met.served c.request.ensures.served

pub returns-in_err-carried-in-Copy-clause-refused : goal.returns-in_err-carried-in-Copy-clause-refused
returns-in_err-carried-in-Copy-clause-refused g c =
    let p = err_from_is_err_and c.from_residual.result c.from_residual.ensures.1 in
    rw (p.1, p.2) (refused_on _ _ _ _ c.loop-gather.invariant.met.served (g.C.Carrier.view c.request.new.carrier).seen c.in_err-carried-in-Copy.field-0.0 c.in_err-carried-in-Copy.ensures.refused)

pub returns-in_err-carried-in-Copy-clause-complete : goal.returns-in_err-carried-in-Copy-clause-complete
returns-in_err-carried-in-Copy-clause-complete g c =
    let p = err_from_is_err_and c.from_residual.result c.from_residual.ensures.1 in
    rw (p.1, p.2) (complete_on _ _ _ _ c.loop-gather.invariant.met.served (g.C.Carrier.view c.request.new.carrier).seen (g.C.Carrier.view c.request.new.carrier).troubles c.in_err-carried-in-Copy.field-0.0 c.in_err-carried-in-Copy.ensures.complete)

pub returns-in_err-carried-in-Copy-clause-became : goal.returns-in_err-carried-in-Copy-clause-became
returns-in_err-carried-in-Copy-clause-became g c = g.met.C.Carrier.became_by_both _ _ _ c.loop-gather.invariant.became c.request.ensures.became

pub hear-requires : goal.hear-requires
hear-requires g c = copy_within _ _ _ _ _ _ c.loop-gather.invariant.met c.in-Copy.copy (c.in-Copy.ensures.next c.args.first.now (told_in (g.C.Carrier.view c.loop-gather.carrier).seen c.args.manager.now Collect) c.loop-gather.invariant.met.kept_is)

pub loop-gather-smaller : goal.loop-gather-smaller
loop-gather-smaller g c = fewer_left _ _ _ _ _ _ c.loop-gather.invariant.met _ _ c.request.ensures.served c.in_ok-carried-in-Copy.ensures.heard c.in-Copy.copy (c.in-Copy.ensures.next c.args.first.now (told_in (g.C.Carrier.view c.loop-gather.carrier).seen c.args.manager.now Collect) c.loop-gather.invariant.met.kept_is) refl

pub loop-gather-preserved : goal.loop-gather-preserved
loop-gather-preserved g c =
    record {
      met = collects_on _ _ _ _ _ _ c.loop-gather.invariant.met _ _ c.request.ensures.served c.in_ok-carried-in-Copy.ensures.heard c.in_ok-carried-in-Copy.ensures.cause c.hear.new.gather (c.hear.ensures c.args.first.now (told_in (g.C.Carrier.view c.loop-gather.carrier).seen c.args.manager.now Collect) c.loop-gather.invariant.met.kept_is);
      became = g.met.C.Carrier.became_by_both _ _ _ c.loop-gather.invariant.became c.request.ensures.became;
    }
