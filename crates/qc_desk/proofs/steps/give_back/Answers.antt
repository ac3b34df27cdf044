use Rattle.std.proofs.Common.{arith}
use Rattle.qc_desk.proofs.Moves.{returns}
use Rattle.qc_desk.proofs.steps.give_back.Goals as goal

pub split_seat-requires : goal.split_seat-requires
split_seat-requires c = (c.requires.room.0, omega (arith, c.requires.room.1), returns _ _ c.requires.right.0 c.requires.right.1)
