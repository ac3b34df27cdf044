-- After a sync a crash leaves the bytes; whatever it answers, a crash leaves no more than before.
use Rattle.qc_disk.proofs.Stops.{stop-sync, stop-durable, stop-counted}
use Rattle.qc_disk.proofs.stop.StopDiskDisk.sync.Goals as goal

pub returns-clause-crash : goal.returns-clause-crash
returns-clause-crash c = stop-sync c.args.self.now c.turn.new.self c.turn.result c.turn.ensures.turned

pub returns-clause-durable : goal.returns-clause-durable
returns-clause-durable c = stop-durable c.args.self.now c.turn.new.self c.turn.result c.turn.ensures.turned

pub returns-clause-counted : goal.returns-clause-counted
returns-clause-counted c = stop-counted c.args.self.now c.turn.new.self c.turn.result c.turn.ensures.turned
