-- The law is proved over all histories, by their moves.
use Rattle.qc_serial.proofs.MossVisible.{finds, visible, all, leaves}
use Rattle.qc_serial.proofs.MossGiven.{keeps_turns}
use Rattle.qc_serial.proofs.law.locks_serve_in_order.Goals as goal

pub returns-clause-finds : goal.returns-clause-finds
returns-clause-finds c = finds

pub returns-clause-visible : goal.returns-clause-visible
returns-clause-visible c = visible

pub returns-clause-all : goal.returns-clause-all
returns-clause-all c = all

pub returns-clause-in_order : goal.returns-clause-in_order
returns-clause-in_order c = keeps_turns

pub returns-clause-leaves : goal.returns-clause-leaves
returns-clause-leaves c = leaves
