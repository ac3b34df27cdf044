use Rattle.std.proofs.Common.{◌≡◌, length}
use Rattle.qc_mail.proofs.naming.reply_queues.Given as goal

abbrev pub invariant-loop : goal.invariant-loop
invariant-loop g l = length l.all.items ≡ l.counter
