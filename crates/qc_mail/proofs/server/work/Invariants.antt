use Rattle.std.proofs.Common.{◌≡◌}
use Rattle.qc_mail.proofs.server.work.Given as goal

abbrev pub invariant-loop : goal.invariant-loop
invariant-loop g l = record { of : l.tray.copy ≡ l.outlet.copy; same : l.outlet.copy ≡ l.initial.outlet.copy }
