-- A call that only reads leaves what a crash may leave.
use Rattle.qc_disk.proofs.Stops.{stop-still}
use Rattle.qc_disk.proofs.stop.StopDiskDisk.len.Goals as goal

pub returns-clause-crash : goal.returns-clause-crash
returns-clause-crash c = stop-still c.args.self.now c.turn.new.self c.turn.result c.turn.ensures.turned

pub returns-in_err-turn-clause-crash : goal.returns-in_err-turn-clause-crash
returns-in_err-turn-clause-crash c = stop-still c.args.self.now c.turn.new.self c.turn.result c.turn.ensures.turned
