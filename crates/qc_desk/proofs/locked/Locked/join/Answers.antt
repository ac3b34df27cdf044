use Rattle.std.proofs.Common.{◌<◌, ◌≤◌, sym, ap, ◌∙◌, subst, arith}
use Rattle.qc_event.specs.Tables.{setting_of}
use Rattle.qc_desk.specs.Rules.{AreApart}
use Rattle.qc_desk.proofs.Known.{known_at_rest}
use Rattle.qc_desk.proofs.Numbers.{joins, learns}
use Rattle.qc_desk.proofs.Rests.{rest_joined}
use Rattle.qc_desk.proofs.locked.Locked.join.Goals as goal

pub join_seat-requires : goal.join_seat-requires
join_seat-requires g c =
    let i = c.pass.invariant in
    let o = c.other.invariant in
    let v = c.pass.view_is ∙ c.look.ensures.same.1 in
    let w = c.other.view_is ∙ c.look-2.ensures.same.1 in (
      i.0 ∙ sym c.requires.room.0,
      o.0 ∙ sym c.requires.room.0,
      o.1,
      omega (arith, c.requires.room.1),
      joins _ _ _ _ (ap (λ m. m.live) v ∙ c.requires.client.0) (subst (λ n. 1 ≤ n → 17 < n) (sym (ap (λ m. m.number) v)) c.requires.client.1) (ap (λ m. m.live) w ∙ c.requires.other.0) (ap (λ m. m.out) w ∙ c.requires.other.1) o.4.5,
    )

pub load-requires : goal.load-requires
load-requires g c = let j = c.join_seat.ensures in let v = c.look.new.pass in (j.0 ∙ c.pass.invariant.0 ∙ sym c.requires.room.0, omega (arith, c.requires.room.1), learns _ _ _ _)

pub invariant_of-pass : goal.invariant_of-pass
invariant_of-pass g c =
    let i = c.pass.invariant in
    let o = c.other.invariant in
    let v = c.pass.view_is ∙ c.look.ensures.same.1 in
    let w = c.other.view_is ∙ c.look-2.ensures.same.1 in
    let j = c.join_seat.ensures in
    let l = c.load.ensures in
    let me = l.2.0 ∙ j.2 in
    let m = ap (λ m. m.0) me in (
      l.0 ∙ j.0 ∙ i.0,
      ap (λ m. m.1) me ∙ i.1,
      i.2 ∙ sym (ap (λ m. m.number) m),
      i.3 ∙ sym (ap (λ m. m.count) m),
      rest_joined (setting_of g.N.Store.table g.N.Store.base) c.args.self.now c.pass.inside.seat.me.0 c.other.inside.seat.me.0 c.load.new.seat.me.0 m (ap (λ m. m.seen) v) (ap (λ m. m.seen) w ∙ c.look.ensures.same.0)
          (ap (λ m. m.live) w ∙ c.requires.other.0) (subst (λ m. AreApart m.0) (sym l.2.0) l.2.1) i.4 o.4,
    )

pub returns-clause-known : goal.returns-clause-known
returns-clause-known g c = known_at_rest (setting_of g.N.Store.table g.N.Store.base) _ (invariant_of-pass g c).4
