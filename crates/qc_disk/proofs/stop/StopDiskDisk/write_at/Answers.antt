-- What a crash leaves of a write is among what it left before, after a write.
use Rattle.qc_disk.proofs.Stops.{stop-torn}
use Rattle.qc_disk.proofs.stop.StopDiskDisk.write_at.Goals as goal

pub returns-clause-crash : goal.returns-clause-crash
returns-clause-crash c = stop-torn c.args.self.now c.turn.new.self c.args.at c.args.bytes.now c.turn.result c.turn.ensures.turned
