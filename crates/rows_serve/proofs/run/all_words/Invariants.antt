use Rattle.std.proofs.Common.{◌≡◌}
use Rattle.rows_serve.specs.Requests.{Knows}
use Rattle.rows_serve.proofs.run.all_words.Given as goal

abbrev pub invariant-loop-word : goal.invariant-loop-word
invariant-loop-word g l =
    (l.pass.live ≡ l.fn.pass.live) × (l.pass.number ≡ l.fn.pass.number) × (l.pass.out ≡ l.fn.pass.out)
    × Knows l.pass.seen l.fn.pass.number l.client
