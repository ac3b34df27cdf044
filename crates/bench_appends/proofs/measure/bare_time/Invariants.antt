-- How far the writes came.
use Rattle.std.proofs.Common.{◌≡◌, ◌+◌, ◌*◌}
use Rattle.bench_appends.proofs.measure.bare_time.Given as goal

abbrev pub invariant-loop-turn : goal.invariant-loop-turn
invariant-loop-turn g l = (g.D.Disk.view l.disk).size ≡ 1 + 37 * l.turn
