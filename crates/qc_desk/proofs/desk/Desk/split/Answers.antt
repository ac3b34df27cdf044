use Rattle.qc_event.specs.Tables.{setting_of}
use Rattle.std.proofs.Common.{◌≡◌, ◌+◌, ◌<◌, ◌≤◌, [], refl, sym, ap, ◌∙◌, subst, arith}
use Rattle.qc_desk.specs.declared.view.View.{View}
use Rattle.qc_desk.specs.Entries.{IsLegal, entries_of}
use Rattle.qc_desk.specs.Rules.{IsAtRest, IsNewTo, counted, gave, given}
use Rattle.qc_desk.proofs.Known.{known_at_rest}
use Rattle.qc_desk.proofs.Numbers.{counts, gives, unused}
use Rattle.qc_desk.proofs.Rests.{new_rest}
use Rattle.qc_desk.proofs.desk.Desk.split.Goals as goal

pub load-requires : goal.load-requires
load-requires g c =
    let i = c.pass.invariant in
    let v = c.pass.view_is in
    (i.0 ∙ sym c.args.self.now.named, omega (arith, c.args.self.now.two), unused _ _ _ _ (ap (λ m. m.live) v ∙ c.requires.client.0) (sym i.2 ∙ c.if-pass-eq0.true) (omega (arith, i.3, c.if-pass-lt-LOW.true)))

pub split_seat-seat-requires : goal.split_seat-seat-requires
split_seat-seat-requires g c =
    let i = c.pass.invariant in
    let v = c.pass.view_is in
    let l = c.load.ensures in
    let m = ap (λ m. m.0) l.2.0 in
    (l.0 ∙ i.0 ∙ sym c.args.self.now.named, omega (arith, c.args.self.now.two), counts _ _ (ap (λ m. m.live) (m ∙ v) ∙ c.requires.client.0) (ap (λ m. m.number) m ∙ sym i.2 ∙ c.if-pass-eq0.true) (subst (λ n. n < 17) (sym (ap (λ m. m.count) m ∙ sym i.3)) (omega (arith, c.if-pass-lt-LOW.true))))

pub invariant_of-result : goal.invariant_of-result
invariant_of-result g c =
    let i = c.pass.invariant in
    let l = c.load.ensures in
    let m = ap (λ m. m.0) l.2.0 in
    let sp = c.split_seat-seat.ensures in
    let n = ap (λ m. m.0) sp.4 in
    (sp.3 ∙ l.0 ∙ i.0, ap (λ m. m.1) sp.4, ap (λ k. k + 1) (i.3 ∙ sym (ap (λ m. m.count) m)) ∙ sym (ap (λ m. m.number) n), sym (ap (λ m. m.count) n), new_rest (setting_of g.N.Store.table g.N.Store.base) (c.load.new.seat.me.0.count + 1) _ _ n (subst (IsLegal (setting_of g.N.Store.table g.N.Store.base)) (sym (ap (λ m. m.seen) m)) i.4.3) (subst (λ (x : View). entries_of (x.count + 1) x.seen ≡ []) (sym m) l.2.1))

pub split_seat-seat-requires-2 : goal.split_seat-seat-requires-2
split_seat-seat-requires-2 g c =
    let i = c.pass.invariant in
    let v = c.pass.view_is in
    let d = c.draw-number.ensures in
    let m = ap (λ m. m.0) d.drawn.0 in
    (d.room ∙ i.0 ∙ sym c.args.self.now.named, omega (arith, c.args.self.now.two), gives _ _ c.draw-number.result (ap (λ m. m.live) m ∙ ap (λ m. m.live) v ∙ c.requires.client.0) (ap (λ m. m.drawn) m) (subst (λ n. 1 ≤ n → 17 < n) (sym (ap (λ m. m.number) m ∙ ap (λ m. m.number) v)) c.requires.client.1))

pub invariant_of-result-2 : goal.invariant_of-result-2
invariant_of-result-2 g c =
    let i = c.pass.invariant in
    let d = c.draw-number.ensures in
    let m = ap (λ m. m.0) d.drawn.0 in
    let sp = c.split_seat-seat-2.ensures in
    let n = ap (λ m. m.0) sp.4 ∙ ap given m in
    (sp.3 ∙ d.room ∙ i.0, ap (λ m. m.1) sp.4, sym (ap (λ m. m.number) n), sym (ap (λ m. m.count) n), new_rest (setting_of g.N.Store.table g.N.Store.base) c.draw-number.result _ _ n i.4.3 d.drawn.2)

pub returns-clause-other : goal.returns-clause-other
returns-clause-other g c =
    let d = c.draw-number.ensures in
    let m = ap (λ m. m.0) d.drawn.0 in
    let n = ap (λ m. m.0) c.split_seat-seat-2.ensures.4 ∙ ap given m in
    subst (λ (x : View). IsNewTo x c.split_seat-seat-2.result.me.0.number) c.pass.view_is
    (subst (IsNewTo c.pass.inside.seat.me.0) (sym (ap (λ m. m.number) n)) d.drawn.3)

pub invariant_of-pass : goal.invariant_of-pass
invariant_of-pass g c =
    let i = c.pass.invariant in
    let l = c.load.ensures in
    let sp = c.split_seat-seat.ensures in
    let n = ap (λ m. m.0) sp.2 ∙ ap (λ m. counted m.0) l.2.0 in
    (sp.0 ∙ l.0 ∙ i.0, ap (λ m. m.1) sp.2 ∙ ap (λ m. m.1) l.2.0 ∙ i.1, i.2 ∙ sym (ap (λ m. m.number) n), ap (λ k. k + 1) i.3 ∙ sym (ap (λ m. m.count) n), subst (IsAtRest (setting_of g.N.Store.table g.N.Store.base)) (sym n) i.4)

pub invariant_of-pass-2 : goal.invariant_of-pass-2
invariant_of-pass-2 g c =
    let i = c.pass.invariant in
    let d = c.draw-number.ensures in
    let sp = c.split_seat-seat-2.ensures in
    let n = ap (λ m. m.0) sp.2 ∙ ap (λ m. gave m.0) d.drawn.0 in (
      sp.0 ∙ d.room ∙ i.0,
      ap (λ m. m.1) sp.2 ∙ ap (λ m. m.1) d.drawn.0 ∙ i.1,
      i.2 ∙ sym (ap (λ m. m.number) n),
      i.3 ∙ sym (ap (λ m. m.count) n),
      subst (IsAtRest (setting_of g.N.Store.table g.N.Store.base)) (sym n) (i.4.0, i.4.1, refl, i.4.3, i.4.4, i.4.5, i.4.6, i.4.7),
    )

pub returns-clause-known : goal.returns-clause-known
returns-clause-known g c =
    let setting = setting_of g.N.Store.table g.N.Store.base in
    (known_at_rest setting _ (invariant_of-pass-2 g c).4, known_at_rest setting _ (invariant_of-result-2 g c).4)

pub returns-then-pass-lt-LOW-clause-known : goal.returns-then-pass-lt-LOW-clause-known
returns-then-pass-lt-LOW-clause-known g c =
    let setting = setting_of g.N.Store.table g.N.Store.base in
    (known_at_rest setting _ (invariant_of-pass g c).4, known_at_rest setting _ (invariant_of-result g c).4)
