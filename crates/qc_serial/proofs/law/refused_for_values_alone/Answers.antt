use Rattle.qc_event.proofs.LegalOrderly.{legal_orderly}
use Rattle.qc_serial.specs.Machine.{begin}
use Rattle.qc_serial.specs.Walk.{serialise}
use Rattle.qc_serial.proofs.Shaped.{shaped_order}
use Rattle.qc_serial.proofs.Unfound.{refused_unfound}
use Rattle.qc_serial.proofs.law.refused_for_values_alone.Goals as goal

pub returns : goal.returns
returns c = λ setting values past t legal user alive.
    refused_unfound (begin values) (serialise past t) (shaped_order past t values (legal_orderly setting past legal) user alive)
