-- There is room for one pair more than waits.
use Rattle.std.proofs.Common.{arith}
use Rattle.qc_opening.proofs.Mountings.Waits.{wait_length}
use Rattle.qc_opening.proofs.waiting.Waiting.put_back.Goals as goal

pub push_reserved-requires : goal.push_reserved-requires
push_reserved-requires g c =
    let old = c.args.self.now in
    omega (arith, c.requires.0, c.requires.1, old.disks.ok.0, old.as_many, wait_length old.disks.items old.spares.items old.as_many)

pub push_reserved-requires-2 : goal.push_reserved-requires-2
push_reserved-requires-2 g c =
    let old = c.args.self.now in
    omega (arith, c.requires.0, c.requires.1, old.spares.ok.0, old.as_many, wait_length old.disks.items old.spares.items old.as_many)
