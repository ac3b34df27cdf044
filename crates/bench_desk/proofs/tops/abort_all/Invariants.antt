use Rattle.qc_desk.specs.Rules.{IsClient}
use Rattle.bench_desk.specs.Tops.{AreStarted}
use Rattle.bench_desk.proofs.tops.abort_all.Given as goal

abbrev pub invariant-loop-at : goal.invariant-loop-at
invariant-loop-at g l = IsClient l.pass × AreStarted l.pass.seen l.tops
