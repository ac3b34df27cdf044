-- The list from the next place on is the one from here on, turned.
use Rattle.std.proofs.Common.{◌≤◌, ◌+◌, List, ap, arith, length}
use Rattle.qc_net.specs.declared.link.Fate.{Fate}
use Rattle.qc_net.proofs.Turns.{turned-next, turned-end}
use Rattle.qc_net.proofs.plan.PlanLink.turn.Goals as goal

pub returns-then-next-len-clause-plan : goal.returns-then-next-len-clause-plan
returns-then-next-len-clause-plan c =
    let link = c.args.self.now in
    ap (λ (coming : List Fate). record { first = link.fates.items; coming = coming; hold = link.hold; waited = link.waited }) (turned-next link.fates.items link.at (omega arith))

pub returns-else-next-len-clause-plan : goal.returns-else-next-len-clause-plan
returns-else-next-len-clause-plan c =
    let link = c.args.self.now in
    let end : length link.fates.items ≤ link.at + 1 = omega arith in
    ap (λ (coming : List Fate). record { first = link.fates.items; coming = coming; hold = link.hold; waited = link.waited }) (turned-end link.fates.items link.at link.within end)
