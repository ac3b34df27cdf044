use Rattle.std.proofs.Common.{◌≡◌, ◌+◌, true}
use Rattle.rows_desk.proofs.clients.give_low_numbers.Given as goal

abbrev pub invariant-loop : goal.invariant-loop
invariant-loop g l = (l.pass.live ≡ true) × (l.pass.number ≡ 0) × (l.pass.out ≡ l.fn.pass.out) × (l.pass.seen ≡ l.fn.pass.seen) × (l.pass.count ≡ l.fn.pass.count + l.counter)
