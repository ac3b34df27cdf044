use Rattle.std.proofs.Common.{List, sym, ap, ◌∙◌, subst, arith}
use Rattle.qc_desk.specs.Entries.{IsOlder}
use Rattle.qc_event.specs.declared.event.Entry.{Entry}
use Rattle.qc_desk.specs.declared.view.View.{View}
use Rattle.qc_desk.specs.Rules.{IsSettled}
use Rattle.qc_event.specs.Legal.{Legal}
use Rattle.qc_event.specs.Tables.{setting_of}
use Rattle.qc_event.proofs.LegalAgain.{legal_again}
use Rattle.qc_desk.proofs.Numbers.{settles}
use Rattle.qc_desk.proofs.locked.Locked.close.Goals as goal

pub load-requires : goal.load-requires
load-requires g c =
    let i = c.pass.invariant in
    let m = ap (λ m. m.0) c.lend.ensures.seat in
    let v = c.pass.view_is in (
      c.lend.ensures.room.0 ∙ i.0 ∙ sym c.requires.room.0,
      omega (arith, c.requires.room.1),
      settles _ _ _ _ (ap (λ m. m.rules) m) (ap (λ m. m.live) m ∙ ap (λ m. m.live) v ∙ c.requires.first.0) (ap (λ m. m.number) m ∙ ap (λ m. m.number) v ∙ c.requires.first.1) (ap (λ m. m.out) m ∙ ap (λ m. m.out) v ∙ c.requires.first.2) (ap (λ m. m.flight) m ∙ i.4.5),
    )

pub returns-clause-settled : goal.returns-clause-settled
returns-clause-settled g c =
    let m = ap (λ m. m.0) c.lend.ensures.seat in
    let all = ap (λ m. m.0.all) c.self.invariant.1 ∙ sym c.into_trail.ensures.entries in
    let s = c.load.ensures.2.1 in (
      subst (λ (x : View × List Entry). IsOlder x.0.seen x.1) (λ i. (c.pass.view_is i, all i)) c.lend.ensures.seen,
      subst (λ (x : View × List Entry). IsSettled x.1 x.0) (λ i. (c.pass.view_is i, all i)) (subst (λ (x : View). IsSettled x.all x) m s),
    )

pub returns-clause-legal : goal.returns-clause-legal
returns-clause-legal g c = subst (Legal (setting_of g.N.Store.table g.N.Store.base)) (sym c.into_trail.ensures.entries) (legal_again (setting_of g.N.Store.table g.N.Store.base) c.self.inside.history c.self.invariant.2)
