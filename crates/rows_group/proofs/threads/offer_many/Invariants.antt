use Rattle.std.proofs.Common.{◌≡◌}
use Rattle.rows_group.proofs.threads.offer_many.Given as goal

abbrev pub invariant-loop : goal.invariant-loop
invariant-loop g l = (l.pass.live ≡ l.fn.pass.live) × (l.pass.number ≡ l.fn.pass.number)
