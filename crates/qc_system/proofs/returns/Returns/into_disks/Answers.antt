-- The spares are put behind the disks.
use Rattle.std.proofs.Common.{sym, ◌∙◌}
use Rattle.qc_system.proofs.Pairings.{in_pairs-row}
use Rattle.qc_system.proofs.returns.Returns.into_disks.Goals as goal

pub returns : goal.returns
returns g c = c.put_behind.ensures ∙ sym (in_pairs-row c.args.self.disks.items c.args.self.spares.items c.args.self.as_many)
