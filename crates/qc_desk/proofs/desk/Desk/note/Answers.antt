use Rattle.std.proofs.Common.{sym, ap, ◌∙◌, subst, arith}
use Rattle.qc_event.specs.Tables.{setting_of}
use Rattle.qc_desk.specs.Rules.{IsAtRest}
use Rattle.qc_desk.proofs.Moves.{notes}
use Rattle.qc_desk.proofs.desk.Desk.note.Goals as goal

pub split_seat-requires : goal.split_seat-requires
split_seat-requires g c = (c.pass.invariant.0 ∙ sym c.args.self.now.named, omega (arith, c.args.self.now.two), notes _ _)

pub invariant_of-pass : goal.invariant_of-pass
invariant_of-pass g c =
    let i = c.pass.invariant in
    let sp = c.split_seat.ensures in
    let m = ap (λ m. m.0) sp.2 in
    (sp.0 ∙ i.0, ap (λ m. m.1) sp.2 ∙ i.1, i.2 ∙ sym (ap (λ m. m.number) m), i.3 ∙ sym (ap (λ m. m.count) m), subst (IsAtRest (setting_of g.N.Store.table g.N.Store.base)) (sym m) i.4)
