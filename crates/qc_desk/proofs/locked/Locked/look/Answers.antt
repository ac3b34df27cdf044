use Rattle.std.proofs.Common.{◌≡◌, true, List, ◌++◌, sym, ap, ◌∙◌, subst}
use Rattle.qc_event.specs.Tables.{setting_of}
use Rattle.qc_event.specs.declared.event.Entry.{Entry}
use Rattle.qc_desk.specs.declared.view.View.{View}
use Rattle.qc_desk.specs.Entries.{entries_of, IsSince}
use Rattle.qc_event.proofs.LegalAgain.{legal_again}
use Rattle.qc_desk.specs.Known.{IsDeskHistory}
use Rattle.qc_desk.proofs.Known.{known_at_rest}
use Rattle.qc_desk.proofs.Rests.{held_lent, rest_after}
use Rattle.qc_desk.proofs.Since.{since}
use Rattle.qc_desk.proofs.locked.Locked.look.Goals as goal

pub returns-clause-mine : goal.returns-clause-mine
returns-clause-mine g c live =
    let all = ap (λ m. m.0.all) c.self.invariant.1 ∙ c.self.view_is in
    subst (λ (x : View × List Entry). entries_of x.0.number x.1 ≡ x.0.mine) (λ k. (c.pass.view_is k, all k)) (c.lend.ensures.mine (ap (λ (m : View). m.live) c.pass.view_is ∙ live) ∙ ap (λ (l : List Entry). l ++ c.pass.inside.seat.me.0.mine) c.pass.invariant.4.5)

pub returns-clause-since : goal.returns-clause-since
returns-clause-since g c live =
    let all = ap (λ m. m.0.all) c.self.invariant.1 ∙ c.self.view_is in
    let l : c.pass.inside.seat.me.0.live ≡ true = ap (λ (m : View). m.live) c.pass.view_is ∙ live in
    subst (λ (x : View × List Entry). IsSince x.0.number x.0.seen x.1) (λ k. (c.pass.view_is k, all k))
    (since c.pass.inside.seat.me.0.number c.pass.inside.seat.me.0.seen c.self.inside.seat.me.0.all c.lend.ensures.seen (c.lend.ensures.mine l ∙ ap (λ (x : List Entry). x ++ c.pass.inside.seat.me.0.mine) c.pass.invariant.4.5 ∙ c.pass.invariant.4.4 l))

pub invariant_of-pass : goal.invariant_of-pass
invariant_of-pass g c =
    let i = c.pass.invariant in
    let s = c.self.invariant in
    let l = c.lend.ensures in
    let b = c.give_back.ensures in
    let held = held_lent (setting_of g.N.Store.table g.N.Store.base) c.self.inside.history _ _ _ i.4 s.2 (ap (λ m. m.0) s.1) (ap (λ m. m.0) l.seat) l.mine l.kin l.apart in
    let rest = rest_after (setting_of g.N.Store.table g.N.Store.base) _ _ _ (ap (λ m. m.0) b.seat) held in
    let number = ap (λ m. m.0.number) b.seat ∙ ap (λ m. m.0.number) l.seat in
    let count = ap (λ m. m.0.count) b.seat ∙ ap (λ m. m.0.count) l.seat in
    (b.room.0 ∙ l.room.0 ∙ i.0, ap (λ m. m.1) b.seat ∙ ap (λ m. m.1) l.seat ∙ i.1, i.2 ∙ sym number, i.3 ∙ sym count, rest)

pub returns-clause-history : goal.returns-clause-history
returns-clause-history g c =
    let setting = setting_of g.N.Store.table g.N.Store.base in
    let s = c.self.invariant in
    subst (IsDeskHistory setting) c.self.view_is (record { legal = legal_again setting c.self.inside.history s.2; counted = s.3; bounded = s.4 })

pub returns-clause-known : goal.returns-clause-known
returns-clause-known g c = known_at_rest (setting_of g.N.Store.table g.N.Store.base) _ (invariant_of-pass g c).4
