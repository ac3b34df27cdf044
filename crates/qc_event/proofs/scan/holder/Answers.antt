use Rattle.std.proofs.Common.{ap, sym, ◌∙◌, reverse}
use Rattle.std.specs.Prelude.{None, Some, find, cond, option_to_list}
use Rattle.std.specs.Option.{option_map}
use Rattle.qc_event.specs.declared.event.Grant.{Grant}
use Rattle.qc_event.specs.Seen.{is_in_way}
use Rattle.qc_event.proofs.Granted.{first_grant, none_further, at_copy, elsewhere, grants_nothing}
use Rattle.qc_event.proofs.scan.holder.Goals as goal
use Rattle.qc_event.proofs.scan.holder.Goals.{in-Granted+else-c-copy, else-c-copy-via-then-c-copy+else-is_in_way, else-c-copy-via-else-c-copy, in_default}

pub returns-then-is_in_way : goal.returns-then-is_in_way
returns-then-is_in_way c =
    let p = is_in_way (reverse c.args.h.now) c.args.rec c.args.op.now c.args.access.now in
    sym (ap (option_map (λ (g : Grant). g.access)) (first_grant p c.args.h.now c.args.copy c.loop-e.e-index c.e-item.result c.in-Granted.grant c.loop-e-test.true c.e-item.is c.loop-e.invariant
    (at_copy c.in-Granted.c c.args.copy c.in-Granted.grant c.e-item.result.event c.in-Granted.is c.if-c-copy.true)
    (sym c.is_in_way.ensures ∙ c.if-is_in_way.true)))

pub loop-e-preserved : goal.loop-e-preserved
loop-e-preserved c =
    let p = is_in_way (reverse c.args.h.now) c.args.rec c.args.op.now c.args.access.now in
    none_further p c.args.h.now c.args.copy c.loop-e.e-index c.e-item.result c.loop-e-test.true c.e-item.is c.loop-e.invariant
    (elim c.match-e.branch [
      | in-Granted+else-c-copy w ↦ elim w.else-c-copy.branch [
        | else-c-copy-via-then-c-copy+else-is_in_way w' ↦
            ap (λ o. find p (option_to_list o)) (at_copy w.in-Granted.c c.args.copy w.in-Granted.grant c.e-item.result.event w.in-Granted.is w'.if-c-copy.true)
            ∙ ap (λ b. cond b (Some w.in-Granted.grant) None) (sym w'.is_in_way.ensures ∙ w'.if-is_in_way.false)
        | else-c-copy-via-else-c-copy w' ↦
            ap (λ o. find p (option_to_list o)) (elsewhere w.in-Granted.c c.args.copy w.in-Granted.grant c.e-item.result.event w.in-Granted.is w'.if-c-copy.false)
      ]
      | in_default w ↦ ap (λ o. find p (option_to_list o)) (grants_nothing c.args.copy c.e-item.result.event w.in_default.not-Granted)
    ])
