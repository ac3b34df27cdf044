use Rattle.std.proofs.Common.{refl, arith}
use Rattle.qc_board.proofs.Moves.{splits}
use Rattle.qc_board.proofs.Seating.{same_table}
use Rattle.qc_board.proofs.board.Board.split.Goals as goal

pub split_seat-requires : goal.split_seat-requires
split_seat-requires c = (same_table _ _ _ c.args.self.now _ c.args.seat.now c.self.view_is c.seat.view_is refl c.requires.of, omega (arith, c.self.invariant.0), splits _ _ _)
