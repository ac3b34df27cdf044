-- The law is proved over all orderly histories.
use Rattle.qc_event.proofs.LegalOrderly.{legal_orderly}
use Rattle.qc_serial.proofs.SerialOrder.{serial_for}
use Rattle.qc_serial.proofs.law.serial_where_reads_agree.Goals as goal

pub returns : goal.returns
returns c = λ setting values past t legal. serial_for values past t (legal_orderly setting past legal)
