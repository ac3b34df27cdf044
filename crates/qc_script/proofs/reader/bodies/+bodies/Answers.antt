-- What each function of the cycle returns is what the definition of its name says.
use Rattle.std.proofs.Common.{◌≡◌, ◌+◌, ◌-◌, map, sym, ◌∙◌, subst, inl, inr, arith}
use Rattle.std.proofs.lemmas.Grind.{common_steps}
use Rattle.std.proofs.lemmas.Result.{err_from_is_err_and}
use Rattle.std.proofs.lemmas.Bool.{ltb-true, ltb-false}
use Rattle.qc_script.specs.ScriptText as script
use Rattle.qc_script.specs.Reading.{Fails}
use Rattle.qc_script.specs.Steps.{numbered}
use Rattle.qc_script.proofs.Counted.{counted_next, counted_end, counted_refused}
use Rattle.qc_script.proofs.Plans.{numbered_roll, with_steps-next, with_steps-end}
use Rattle.qc_script.proofs.Refusals.{tries_refused, must_refused, list_refused, steps_refused, body_read, step_in-other}
use Rattle.qc_script.proofs.reader.bodies.+bodies.Goals as goal
use Rattle.qc_script.proofs.reader.bodies.+bodies.Goals.{step_in-in_default-via-then-parts-lt2, step_in-in_default-via-else-parts-lt2+else-parts-lt3+else-parts-lt4}

pub step_in-returns-in_default : goal.step_in-returns-in_default
step_in-returns-in_default t c =
    elim c.in_default.branch [
      | step_in-in_default-via-then-parts-lt2 w ↦ step_in-other (script.body_of c.args.below c.args.around c.args.scope.now) (16 - c.args.below) _ _ c.args.parts.now (inl (omega (arith, ltb-true)))
      | step_in-in_default-via-else-parts-lt2+else-parts-lt3+else-parts-lt4 w ↦ step_in-other (script.body_of c.args.below c.args.around c.args.scope.now) (16 - c.args.below) _ _ c.args.parts.now (inr (omega (arith, ltb-false)))
    ]

pub steps_of-loop-value-preserved : goal.steps_of-loop-value-preserved
steps_of-loop-value-preserved t c =
    rw c.in_ok-push.ensures.items
    (sym (with_steps-next _ _ _ _ _ _ _ c.args.list.now c.loop-value.value-index c.value-item.result (omega arith) c.value-item.is c.in_ok-step.ensures) ∙ c.loop-value.invariant)

pub steps_of-returns : goal.steps_of-returns
steps_of-returns t c =
    sym c.loop-value.invariant ∙ with_steps-end _ _ _ _ c.loop-value.steps.items c.args.list.now c.loop-value.value-index c.loop-value-test.false

pub body_of-returns-in_err-tries : goal.body_of-returns-in_err-tries
body_of-returns-in_err-tries t c =
    let p = err_from_is_err_and c.from_residual-in_err-tries.result c.from_residual-in_err-tries.ensures.1 in
    rw (p.1, p.2)
    (tries_refused _ (c.args.levels - 1) _ _ _ _ _ (omega arith) c.in_ok-check_object.ensures.exact c.in_err-tries.ensures.exact)

pub body_of-returns-in_err-must : goal.body_of-returns-in_err-must
body_of-returns-in_err-must t c =
    let p = err_from_is_err_and c.from_residual-in_err-must.result c.from_residual-in_err-must.ensures.1 in
    rw (p.1, p.2)
    (must_refused _ (c.args.levels - 1) _ _ _ _ _ _ (omega arith) c.in_ok-check_object.ensures.exact c.in_ok-tries.ensures.exact c.in_err-must.ensures.exact)

pub body_of-returns-in_err-list : goal.body_of-returns-in_err-list
body_of-returns-in_err-list t c =
    let p = err_from_is_err_and c.from_residual-in_err-list.result c.from_residual-in_err-list.ensures.1 in
    rw (p.1, p.2)
    (list_refused _ (c.args.levels - 1) _ _ _ _ _ _ _ (record {
      level = omega arith;
      checked = c.in_ok-check_object.ensures.exact;
      tried = c.in_ok-tries.ensures.exact;
      needed = c.in_ok-must.ensures.exact;
    }) c.in_err-list.ensures.exact)

pub body_of-returns-in_err-steps : goal.body_of-returns-in_err-steps
body_of-returns-in_err-steps t c =
    let next : c.in_ok-next.field-0 ≡ c.args.next.now + 1 = grind (arith, common_steps) in
    let p = err_from_is_err_and c.from_residual-in_err-steps.result c.from_residual-in_err-steps.ensures.1 in
    rw (p.1, p.2)
    (steps_refused _ (c.args.levels - 1) _ _ _ _ _ _ _ _ (record {
      level = omega arith;
      checked = c.in_ok-check_object.ensures.exact;
      tried = c.in_ok-tries.ensures.exact;
      needed = c.in_ok-must.ensures.exact;
    }) c.in_ok-list.ensures.exact (rw next at c.in_err-steps.ensures))

pub body_of-returns : goal.body_of-returns
body_of-returns t c =
    let next : c.in_ok-next.field-0 ≡ c.args.next.now + 1 = grind (arith, common_steps) in
    rw numbered_roll
    (body_read _ (c.args.levels - 1) _ _ _ _ _ _ _ _ _ (record {
      level = omega arith;
      checked = c.in_ok-check_object.ensures.exact;
      tried = c.in_ok-tries.ensures.exact;
      needed = c.in_ok-must.ensures.exact;
    }) c.in_ok-list.ensures.exact (rw next at c.in_ok-steps.ensures))

pub bodies_in-loop-value-preserved : goal.bodies_in-loop-value-preserved
bodies_in-loop-value-preserved t c =
    rw c.in_ok-push.ensures.items
    (sym (counted_next _ _ _ numbered c.loop-value.bodies.items _ c.args.list.now c.loop-value.value-index c.value-item.result (omega arith) c.value-item.is c.in_ok-body.ensures) ∙ c.loop-value.invariant)

pub bodies_in-returns : goal.bodies_in-returns
bodies_in-returns t c =
    sym c.loop-value.invariant ∙ counted_end _ _ (map numbered c.loop-value.bodies.items) c.args.list.now c.loop-value.value-index c.loop-value-test.false

pub bodies_in-returns-in_err-body : goal.bodies_in-returns-in_err-body
bodies_in-returns-in_err-body t c =
    let p = err_from_is_err_and c.from_residual.result c.from_residual.ensures.1 in
    rw (p.1, p.2)
    (subst (λ r. Fails c.in_err-body.field-0.0 r) c.loop-value.invariant
    (counted_refused _ _ (map numbered c.loop-value.bodies.items) _ _ _ _ c.loop-value-test.true c.value-item.is c.in_err-body.ensures))
