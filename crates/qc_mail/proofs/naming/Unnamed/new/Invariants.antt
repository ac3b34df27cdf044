use Rattle.std.proofs.Common.{◌≡◌, length}
use Rattle.qc_mail.proofs.naming.Unnamed.new.Given as goal

abbrev pub invariant-loop : goal.invariant-loop
invariant-loop g l = length l.opened.items ≡ l.counter
