use Rattle.std.proofs.Common.{subst}
use Rattle.qc_desk.specs.Consulting.{HasAsked}
use Rattle.qc_desk.proofs.Consulting.{asked_later}
use Rattle.qc_site.proofs.replica_desk.ask_without_room.Goals as goal

pub returns-in-Some-clause-asked : goal.returns-in-Some-clause-asked
returns-in-Some-clause-asked g c =
    subst (λ p. HasAsked p c.args.ask.now) c.granted-before.ensures.same (asked_later c.args.seer.now.seen c.granted-before.new.seer.seen c.args.ask.now c.granted-before.ensures.seer.0 c.requires.asked)

pub returns-in-None-clause-asked : goal.returns-in-None-clause-asked
returns-in-None-clause-asked g c =
    subst (λ p. HasAsked p c.args.ask.now) c.granted-before.ensures.same (asked_later c.args.seer.now.seen c.granted-before.new.seer.seen c.args.ask.now c.granted-before.ensures.seer.0 c.requires.asked)
