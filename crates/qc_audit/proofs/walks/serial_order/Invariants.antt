use Rattle.std.proofs.Common.{take, reverse}
use Rattle.qc_audit.specs.Walks.{AreWalks}
use Rattle.qc_audit.proofs.walks.serial_order.Given as goal

abbrev pub invariant-loop-entry : goal.invariant-loop-entry
invariant-loop-entry l = AreWalks l.known.past (reverse (take l.entry-index l.trail)) l.walks.lists.items
