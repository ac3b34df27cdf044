-- What a crash leaves of a cut is among what it left before, after a cut.
use Rattle.qc_disk.proofs.Stops.{stop-cut}
use Rattle.qc_disk.proofs.stop.StopDiskDisk.cut.Goals as goal

pub returns-clause-crash : goal.returns-clause-crash
returns-clause-crash c = stop-cut c.args.self.now c.turn.new.self c.args.to c.turn.result c.turn.ensures.turned
