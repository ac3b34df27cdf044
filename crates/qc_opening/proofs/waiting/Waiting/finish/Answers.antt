-- Where no pair waits, there is no disk.
use Rattle.std.proofs.Common.{arith, ap, length}
use Rattle.qc_opening.proofs.Mountings.Waits.{wait_length}
use Rattle.qc_opening.proofs.waiting.Waiting.finish.Goals as goal

pub destroy_empty-requires : goal.destroy_empty-requires
destroy_empty-requires g c =
    let it = c.args.self in
    omega (arith, it.disks.ok.0, ap length c.requires, wait_length it.disks.items it.spares.items it.as_many)

pub destroy_empty-requires-2 : goal.destroy_empty-requires-2
destroy_empty-requires-2 g c =
    let it = c.args.self in
    omega (arith, it.spares.ok.0, it.as_many, ap length c.requires, wait_length it.disks.items it.spares.items it.as_many)
