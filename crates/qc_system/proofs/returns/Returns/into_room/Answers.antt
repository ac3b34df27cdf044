-- Where no pair is, no disk is.
use Rattle.qc_system.proofs.Pairings.{no_pairs}
use Rattle.qc_system.proofs.returns.Returns.into_room.Goals as goal

pub returns-clause-none : goal.returns-clause-none
returns-clause-none g c = no_pairs c.args.self.disks.items c.args.self.spares.items c.args.self.as_many c.requires
