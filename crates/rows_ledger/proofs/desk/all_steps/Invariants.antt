use Rattle.std.proofs.Common.{◌≡◌}
use Rattle.rows_ledger.proofs.desk.all_steps.Given as goal

abbrev pub invariant-loop-word : goal.invariant-loop-word
invariant-loop-word g l = (l.pass.live ≡ l.fn.pass.live) × (l.pass.number ≡ l.fn.pass.number) × (l.pass.out ≡ l.fn.pass.out)
