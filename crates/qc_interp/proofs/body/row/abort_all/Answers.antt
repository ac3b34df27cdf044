use Rattle.std.proofs.Common.{◌∙◌, refl, sym, ap, subst, arith, []}
use Rattle.std.specs.Prelude.{Some}
use Rattle.qc_event.specs.declared.event.Cause.TheVariants as cause
use Rattle.qc_script.specs.Calls.{IsGrounded}
use Rattle.qc_script.specs.Client.{Client, Made}
use Rattle.qc_interp.specs.AtOnce.{TurnedOne}
use Rattle.qc_interp.proofs.Stepping.Results.{any_err}
use Rattle.qc_interp.proofs.Rows.Aborting.{aborted_none, aborted_cut, at_index}
use Rattle.qc_interp.proofs.Rows.AbortNext.{IsBy, by_orphan, by_ended, next_first, next_grounded, next_turned, last_turned}
use Rattle.qc_interp.proofs.body.row.abort_all.Goals as goal
use Rattle.qc_interp.proofs.body.row.abort_all.Goals.{in-Orphan, in-Ended}

pub loop-first-init : goal.loop-first-init
loop-first-init g c =
    let v = g.T.Tx.view c.args.tx.now in
    let by : IsBy c.args.of.now c.args.why.now c.match-why.above = elim c.match-why.branch [
      | in-Orphan w ↦ by_orphan c.args.of.now c.args.why.now c.match-why.above w.in-Orphan.ancestor w.above-is w.in-Orphan.is
      | in-Ended w ↦ by_ended c.args.of.now c.args.why.now c.match-why.above w.above-is w.in-Ended.is
    ] in
    record { met = c.requires.met; client = refl; by = by; aborted = aborted_none v.client c.args.firsts.now v.seen c.requires.legal }

pub abort_one-requires-clause-user : goal.abort_one-requires-clause-user
abort_one-requires-clause-user g c =
    let inv = c.loop-first.invariant in
    let v = g.T.Tx.view c.args.tx.now in
    let w = g.T.Tx.view c.loop-first.tx in
    let ns = c.args.firsts.now in
    let i = c.loop-first.first-index in
    let n = c.first-item.result in
    let at = at_index ns i n c.loop-first-test.true ∙ ap Some (sym c.first-item.is) in
    (next_first v.client c.args.of.now c.args.why.now ns v.seen c.requires.nonroot c.requires.refused c.requires.firsts inv.by.other i w.seen inv.aborted n at).1

pub abort_one-requires-clause-grounded : goal.abort_one-requires-clause-grounded
abort_one-requires-clause-grounded g c =
    let inv = c.loop-first.invariant in
    let v = g.T.Tx.view c.args.tx.now in
    let w = g.T.Tx.view c.loop-first.tx in
    let ns = c.args.firsts.now in
    let i = c.loop-first.first-index in
    let n = c.first-item.result in
    let at = at_index ns i n c.loop-first-test.true ∙ ap Some (sym c.first-item.is) in
    subst (λ a. IsGrounded w.seen n (cause.Orphan a)) (sym inv.by.is)
    (next_grounded v.client c.args.of.now c.args.why.now ns v.seen c.requires.nonroot c.requires.refused c.requires.firsts inv.by.other i w.seen inv.aborted n at)

pub returns-in_err-abort_one-clause-cut : goal.returns-in_err-abort_one-clause-cut
returns-in_err-abort_one-clause-cut g c =
    let inv = c.loop-first.invariant in
    let v = g.T.Tx.view c.args.tx.now in
    let w = g.T.Tx.view c.loop-first.tx in
    let x = g.T.Tx.view c.abort_one.new.tx in
    let ns = c.args.firsts.now in
    let i = c.loop-first.first-index in
    any_err _ c.from_residual.result (aborted_cut v.client ns v.seen i w.seen x.seen inv.aborted (subst (λ (d : Client). Made d [] w.seen x.seen) inv.client c.in_err-abort_one.ensures.cut))

pub loop-first-preserved : goal.loop-first-preserved
loop-first-preserved g c =
    let inv = c.loop-first.invariant in
    let v = g.T.Tx.view c.args.tx.now in
    let w = g.T.Tx.view c.loop-first.tx in
    let x = g.T.Tx.view c.abort_one.new.tx in
    let ns = c.args.firsts.now in
    let i = c.loop-first.first-index in
    let n = c.first-item.result in
    let at = at_index ns i n c.loop-first-test.true ∙ ap Some (sym c.first-item.is) in
    let one = subst (λ a. TurnedOne v.client n a w.seen x.seen) inv.by.is (subst (λ (d : Client). TurnedOne d n c.match-why.above w.seen x.seen) inv.client c.in_ok-abort_one.ensures.ok) in
    record {
      met = c.abort_one.ensures.met;
      client = c.abort_one.ensures.client ∙ inv.client;
      by = inv.by;
      aborted = next_turned v.client c.args.of.now c.args.why.now ns v.seen c.requires.nonroot c.requires.refused c.requires.firsts inv.by.other i w.seen inv.aborted n at x.seen one;
    }

pub returns-clause-ok : goal.returns-clause-ok
returns-clause-ok g c =
    let inv = c.loop-first.invariant in
    let v = g.T.Tx.view c.args.tx.now in
    let w = g.T.Tx.view c.loop-first.tx in
    let ns = c.args.firsts.now in
    let i = c.loop-first.first-index in
    let over = c.loop-first-test.false in
    let within = c.loop-first.auto.first-index-end in
    last_turned v.client c.args.of.now c.args.why.now ns v.seen c.requires.nonroot c.requires.refused c.requires.firsts inv.by.other i w.seen inv.aborted (omega (arith, over, within))
