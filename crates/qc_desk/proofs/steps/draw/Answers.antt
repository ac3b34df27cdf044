use Rattle.std.proofs.Common.{ap, ◌∙◌, arith}
use Rattle.qc_desk.proofs.Numbers.{draws}
use Rattle.qc_desk.proofs.steps.draw.Goals as goal

pub compare_exchange-found-requires : goal.compare_exchange-found-requires
compare_exchange-found-requires g c = let i = c.loop.invariant in (i.0 ∙ c.requires.room.0, omega (arith, c.requires.room.1), draws _ _ _ _ _ (ap (λ m. m.0.live) i.1 ∙ c.requires.live))
