use Rattle.std.proofs.Common.{length, sym, ap, ◌∙◌, arith}
use Rattle.qc_desk.proofs.Moves.{posts_as, takes}
use Rattle.qc_desk.proofs.steps.push.Goals as goal

pub compare_exchange_with-requires : goal.compare_exchange_with-requires
compare_exchange_with-requires c = (c.requires.room.0, omega (arith, c.requires.room.1), posts_as _ _ _ _ _ _ c.requires.seat.0 c.requires.seat.1 c.requires.seat.2 (ap length c.requires.seat.3 ∙ sym c.len-count.ensures.length))

pub load-requires : goal.load-requires
load-requires c = let x = c.compare_exchange_with.ensures in (x.0 ∙ c.requires.room.0, omega (arith, c.requires.room.1), takes _ _ _ _ (ap (λ m. m.0.rules) x.2.2 ∙ c.requires.seat.0))
