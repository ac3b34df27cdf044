use Rattle.std.proofs.Common.{[], refl, sym, ap, ◌∙◌, arith}
use Rattle.qc_event.specs.Tables.{setting_of}
use Rattle.qc_desk.specs.Rules.{returned}
use Rattle.qc_desk.proofs.Known.{known_at_rest}
use Rattle.qc_desk.proofs.Rests.{new_rest}
use Rattle.qc_desk.proofs.Moves.{returns}
use Rattle.qc_desk.proofs.desk.Blank.name.Goals as goal

pub split_seat-right-requires : goal.split_seat-right-requires
split_seat-right-requires g c = (c.args.self.seat_is.0, omega (arith, c.args.self.two), returns _ _ (ap (λ m. m.0.rules) c.args.self.seat_is.1) (ap (λ m. m.0.flight) c.args.self.seat_is.1))

pub invariant_of-result : goal.invariant_of-result
invariant_of-result g c =
    let s = c.args.self.seat_is in
    let sp = c.split_seat-right.ensures in
    let m = ap (λ m. m.0) sp.2 ∙ ap (λ m. returned m.0) s.1 in (
      sp.0 ∙ s.0 ∙ c.requires.desk,
      ap (λ m. m.1) sp.2 ∙ ap (λ m. m.1) s.1,
      sym (ap (λ m. m.number) m),
      sym (ap (λ m. m.count) m),
      new_rest (setting_of g.N.Store.table g.N.Store.base) 0 [] _ m ∣ tt ∣₁ refl,
    )

pub returns-clause-known : goal.returns-clause-known
returns-clause-known g c =
    let s = c.args.self.seat_is in
    let m = ap (λ m. m.0) c.split_seat-right.ensures.2 ∙ ap (λ m. returned m.0) s.1 in
    known_at_rest (setting_of g.N.Store.table g.N.Store.base) _ (new_rest (setting_of g.N.Store.table g.N.Store.base) 0 [] _ m ∣ tt ∣₁ refl)
