use Rattle.std.proofs.Common.{refl, arith}
use Rattle.qc_board.proofs.Moves.{joins}
use Rattle.qc_board.proofs.Seating.{same_table}
use Rattle.qc_board.proofs.board.Board.join.Goals as goal

pub join_seat-requires : goal.join_seat-requires
join_seat-requires c = (
  same_table _ _ _ c.args.self.now _ c.args.seat.now c.self.view_is c.seat.view_is refl c.requires.of,
  same_table _ _ _ c.args.self.now _ c.args.other c.self.view_is c.other.view_is refl c.requires.other,
  c.other.invariant.0,
  omega (arith, c.self.invariant.0),
  joins _ _ _ _ _ c.seat.invariant.1,
)
