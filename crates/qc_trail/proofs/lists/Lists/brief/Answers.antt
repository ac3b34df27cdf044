use Rattle.std.proofs.Common.{subst}
use Rattle.qc_trail.specs.Rare.{rare_in}
use Rattle.qc_trail.specs.Told.{StandsAt}
use Rattle.qc_trail.proofs.Seldom.{rare_tells, stands}
use Rattle.qc_trail.proofs.lists.Lists.brief.Goals as goal

pub returns-clause-told : goal.returns-clause-told
returns-clause-told c =
    let there = stands c.add.new.self (rare_in c.args.event.now) c.in-Some-2.at (subst (StandsAt c.add.new.self (rare_in c.args.event.now)) c.in-Some-2.is c.in_ok-at.ensures.there) in
    record { within = there.within; is = rare_tells c.args.event.now _ there.is }
