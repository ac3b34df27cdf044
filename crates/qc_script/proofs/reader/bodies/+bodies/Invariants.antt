-- The measure is the levels of bodies that are left, and a rank among the functions.
use Rattle.std.proofs.Common.{◌≡◌, ◌+◌, ◌-◌, ◌*◌, map, drop}
use Rattle.serde_json.specs.View.{view}
use Rattle.qc_script.specs.ScriptText as script
use Rattle.qc_script.specs.Steps.{numbered}
use Rattle.qc_script.proofs.Parts.{with_steps, with_counted}
use Rattle.qc_script.proofs.reader.bodies.+bodies.Given as goal

abbrev pub decreases-body_of : goal.decreases-body_of
decreases-body_of l = 7 * l.levels

abbrev pub decreases-bodies_in : goal.decreases-bodies_in
decreases-bodies_in l = 7 * l.levels + 1

abbrev pub decreases-child_of : goal.decreases-child_of
decreases-child_of l = 7 * l.below + 1

abbrev pub decreases-par_of : goal.decreases-par_of
decreases-par_of l = 7 * l.below + 2

abbrev pub decreases-two_of : goal.decreases-two_of
decreases-two_of l = 7 * l.below + 3

abbrev pub decreases-step_in : goal.decreases-step_in
decreases-step_in l = 7 * l.below + 4

abbrev pub decreases-step_of : goal.decreases-step_of
decreases-step_of l = 7 * l.below + 5

abbrev pub decreases-steps_of : goal.decreases-steps_of
decreases-steps_of l = 7 * l.below + 6

-- the elements that are left decide
abbrev pub invariant-steps_of-loop-value : goal.invariant-steps_of-loop-value
invariant-steps_of-loop-value l =
    with_steps l.steps.items (script.steps_of (script.body_of l.below l.around l.scope) (16 - l.below) l.scope l.next (map view (drop l.value-index l.list)))
    ≡ script.steps_of (script.body_of l.below l.around l.scope) (16 - l.below) l.scope l.initial.next (map view l.list)

abbrev pub invariant-bodies_in-loop-value : goal.invariant-bodies_in-loop-value
invariant-bodies_in-loop-value l =
    with_counted (map numbered l.bodies.items) (script.each_counted (script.body_of l.levels l.around l.scope) l.next (map view (drop l.value-index l.list)))
    ≡ script.each_counted (script.body_of l.levels l.around l.scope) l.initial.next (map view l.list)
