use Rattle.std.proofs.Common.{◌≡◌}
use Rattle.crossbeam_queue.specs.Passes.{view, IsPassOf}
use Rattle.qc_lane.proofs.queue.put.Given as goal

abbrev pub invariant-loop : goal.invariant-loop
invariant-loop g l = record { of : IsPassOf l.queue l.pass; same : view l.pass ≡ view l.initial.pass; item : l.item ≡ l.initial.item }
