use Rattle.std.proofs.Common.{refl, sym, subst, arith, IsBitSet, ◌<◌}
use Rattle.qc_board.specs.Boards.{Seated}
use Rattle.qc_board.proofs.Moves.{dooms}
use Rattle.qc_board.proofs.Seating.{same_table, is_low}
use Rattle.qc_board.proofs.board.Board.doom.Goals as goal

pub fetch_max-requires : goal.fetch_max-requires
fetch_max-requires c =
    let low : c.from.result < 16 = is_low c.self.inside.sessions c.args.session c.from.result c.args.self.now _ c.self.view_is c.self.invariant.1 c.from.ensures c.requires.session in
    let may = subst (λ (s : Seated). IsBitSet s.may c.args.session) (sym c.seat.view_is) c.requires.may in (
      same_table _ _ _ c.args.self.now _ c.args.seat.now c.self.view_is c.seat.view_is refl c.requires.of,
      omega (arith, c.self.invariant.0, low),
      dooms _ _ _ _ _ _ _ low c.seat.invariant.1 (subst (λ n. IsBitSet c.seat.inside.seat.me.0.may n) (sym c.from.ensures) may),
    )
