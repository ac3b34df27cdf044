use Rattle.std.proofs.lemmas.Result.{on_ok_weaker}
use Rattle.qc_history.proofs.index.Index.push.Goals as goal

pub returns-clause-ok : goal.returns-clause-ok
returns-clause-ok c = on_ok_weaker c.take_in.result (λ grows. grows c.args.entry.now c.of.ensures) c.take_in.ensures.ok
