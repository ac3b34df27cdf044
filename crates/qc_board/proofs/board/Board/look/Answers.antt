use Rattle.std.proofs.Common.{refl, subst, arith, ◌<◌}
use Rattle.qc_board.specs.Boards.{Seated}
use Rattle.qc_board.specs.Marks.{IsBound}
use Rattle.qc_board.proofs.Moves.{looks}
use Rattle.qc_board.proofs.Seating.{same_table, is_low}
use Rattle.qc_board.proofs.board.Board.look.Goals as goal

pub load-word-requires : goal.load-word-requires
load-word-requires c =
    let low : c.from.result < 16 = is_low c.self.inside.sessions c.args.session c.from.result c.args.self.now _ c.self.view_is c.self.invariant.1 c.from.ensures c.requires.session in (
      same_table _ _ _ c.args.self.now _ c.args.seat.now c.self.view_is c.seat.view_is refl c.requires.of,
      omega (arith, c.self.invariant.0, low),
      looks _ _ _ _ _ _ low c.seat.invariant.1,
    )

pub returns-clause-word : goal.returns-clause-word
returns-clause-word c = (
  c.load-word.result,
  subst (λ (s : Seated). IsBound s.may s.marks c.args.session c.load-word.result) c.seat.view_is
      (subst (λ n. IsBound c.seat.inside.seat.me.0.may c.seat.inside.seat.me.0.marks n c.load-word.result) c.from.ensures c.load-word.ensures.2.1),
  refl,
)
