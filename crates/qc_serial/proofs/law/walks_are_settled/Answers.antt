-- Legal histories are orderly, and in those the law holds.
use Rattle.std.proofs.Common.{◌++◌}
use Rattle.qc_event.proofs.LegalOrderly.{legal_orderly}
use Rattle.qc_serial.proofs.Settled.{walk_settled}
use Rattle.qc_serial.proofs.law.walks_are_settled.Goals as goal

pub returns : goal.returns
returns c = λ setting later past n legal below done. walk_settled later past n below (legal_orderly setting (later ++ past) legal) done
