-- In every orderly history the serial machine accepts the order of a live transaction, where its reads find
-- the values that were written last.
use Rattle.std.specs.Prelude.{ℕ, ◌≡◌, List, None}
use Rattle.qc_config.specs.Val.{Datum}
use Rattle.qc_event.specs.History.{Past, Name}
use Rattle.qc_event.specs.Dead.{dead}
use Rattle.qc_event.proofs.Orderly.{Orderly}
use Rattle.qc_serial.specs.Machine.{begin}
use Rattle.qc_serial.specs.Shape.{Reads}
use Rattle.qc_serial.proofs.Shape.{accepts}
use Rattle.qc_serial.specs.Walk.{serialise}
use Rattle.qc_serial.specs.Serial.{IsSerialFor, IsUserOf}
use Rattle.qc_serial.proofs.Shaped.{shaped_order}
use Rattle.qc_serial.proofs.OwnSerial.{own_serial}

pub serial_for : (values : List Datum) (past : Past) (t : Name) → Orderly past → IsUserOf past t → dead past t ≡ None → Reads values (serialise past t) → IsSerialFor values past t
serial_for values past t orderly user alive reads = record {
  accepted = accepts (begin values) (serialise past t) (shaped_order past t values orderly user alive) reads;
  own = own_serial past t orderly user alive;
}
