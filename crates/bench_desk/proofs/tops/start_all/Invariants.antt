use Rattle.qc_desk.specs.Rules.{IsClient}
use Rattle.bench_desk.specs.Tops.{AreStarted}
use Rattle.bench_desk.proofs.tops.start_all.Given as goal

abbrev pub invariant-loop : goal.invariant-loop
invariant-loop g l = IsClient l.pass × AreStarted l.pass.seen l.names.items
