use Rattle.std.proofs.Common.{◌++◌, ◌≡◌, true, ap, ◌∙◌, subst, arith}
use Rattle.qc_desk.specs.Entries.{IsOlder, entries_of}
use Rattle.qc_desk.specs.Rules.{AreApart, AreKin, lent, looked}
use Rattle.qc_desk.proofs.Moves.{cuts_as, lends_as, looks}
use Rattle.qc_desk.proofs.steps.lend.Goals as goal

pub split_seat-lent-requires : goal.split_seat-lent-requires
split_seat-lent-requires c = (c.requires.room.1, omega (arith, c.requires.room.2), cuts_as _ _ _ (ap (λ m. m.0) c.requires.right))

pub join_seat-requires : goal.join_seat-requires
join_seat-requires c = let sp = c.split_seat-lent.ensures in (c.requires.room.0, sp.3 ∙ c.requires.room.1, ap (λ m. m.1) sp.4, omega (arith, c.requires.room.2), lends_as _ _ _ _ _ (ap (λ m. m.0) sp.4 ∙ ap (λ m. m.0) c.requires.right))

pub load-requires : goal.load-requires
load-requires c = let j = c.join_seat.ensures in (j.0 ∙ c.requires.room.0, omega (arith, c.requires.room.2), looks _ _ _ _ (ap (λ m. m.0.rules) j.2))

pub returns-clause-seat : goal.returns-clause-seat
returns-clause-seat c = let j = c.join_seat.ensures in let sp = c.split_seat-lent.ensures in c.load.ensures.2.0 ∙ ap (λ m. (looked m.0, m.1)) j.2 ∙ ap (λ m. (looked (lent c.args.seat.now.me.0 m.0), c.args.seat.now.me.1)) sp.4

pub returns-clause-seen : goal.returns-clause-seen
returns-clause-seen c = let j = c.join_seat.ensures in let sp = c.split_seat-lent.ensures in subst (λ m. IsOlder c.args.seat.now.me.0.seen m.0.all) sp.4 (subst (λ m. IsOlder m.0.seen m.0.all) j.2 c.load.ensures.2.1)

pub returns-clause-mine : goal.returns-clause-mine
returns-clause-mine c = let j = c.join_seat.ensures in let sp = c.split_seat-lent.ensures in subst (λ m. c.args.seat.now.me.0.live ≡ true → entries_of c.args.seat.now.me.0.number m.0.all ≡ c.args.seat.now.me.0.flight ++ c.args.seat.now.me.0.mine) sp.4 (subst (λ m. m.0.live ≡ true → entries_of m.0.number m.0.all ≡ m.0.flight ++ m.0.mine) j.2 c.load.ensures.2.2)

pub returns-clause-kin : goal.returns-clause-kin
returns-clause-kin c = let j = c.join_seat.ensures in let sp = c.split_seat-lent.ensures in subst (λ m. AreKin c.args.seat.now.me.0.kin m.0.all) sp.4 (subst (λ m. AreKin m.0.kin m.0.all) j.2 c.load.ensures.2.3)

pub returns-clause-apart : goal.returns-clause-apart
returns-clause-apart c = let j = c.join_seat.ensures in subst (λ m. AreApart m.0) j.2 c.load.ensures.2.4
