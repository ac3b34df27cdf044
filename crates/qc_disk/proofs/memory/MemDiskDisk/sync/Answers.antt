-- After a sync a crash leaves the bytes; whatever it answers, a crash leaves no more than before.
use Rattle.qc_disk.proofs.Turns.{turn-sync, turn-durable, turn-counted}
use Rattle.qc_disk.proofs.memory.MemDiskDisk.sync.Goals as goal

pub returns-clause-crash : goal.returns-clause-crash
returns-clause-crash c = turn-sync c.args.self.now c.turn.new.self c.turn.result c.turn.ensures.turned

pub returns-clause-durable : goal.returns-clause-durable
returns-clause-durable c = turn-durable c.args.self.now c.turn.new.self c.turn.result c.turn.ensures.turned

pub returns-clause-counted : goal.returns-clause-counted
returns-clause-counted c = turn-counted c.args.self.now c.turn.new.self c.turn.result c.turn.ensures.turned
