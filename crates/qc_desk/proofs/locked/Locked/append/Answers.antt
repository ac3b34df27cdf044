use Rattle.qc_event.specs.Tables.{setting_of}
use Rattle.std.proofs.Common.{◌≡◌, ℕ, List, [], ◌∷◌, sym, ap, ◌∙◌, subst}
use Rattle.std.specs.Prelude.{IfErr, OnOk}
use Rattle.qc_event.specs.Legal.{Allowed}
use Rattle.qc_event.specs.Wants.{IsExactWant}
use Rattle.qc_event.proofs.LegalAgain.{legal_again}
use Rattle.qc_event.specs.declared.event.Entry.{Entry}
use Rattle.qc_desk.specs.declared.view.View.{View}
use Rattle.qc_desk.specs.Entries.{entry, AreCounted}
use Rattle.qc_desk.proofs.Counting.{counted_after}
use Rattle.qc_desk.specs.Rules.{ruler, IsHeld, extends}
use Rattle.qc_desk.proofs.Calls.{wants}
use Rattle.qc_desk.proofs.Known.{known_at_rest}
use Rattle.qc_desk.proofs.Rests.{held_after, own_after, held_lent, rest_after}
use Rattle.qc_desk.proofs.locked.Locked.append.Goals as goal

pub invariant_of-self : goal.invariant_of-self
invariant_of-self g c =
    let i = c.pass.invariant in
    let s = c.self.invariant in
    let p = c.push-answer.ensures in
    let l = c.lend.ensures in
    let own : c.pass.inside.number ≡ c.lend.new.seat.me.0.number = i.2 ∙ sym (ap (λ m. m.0.number) l.seat) in
    let may : Allowed (setting_of g.N.Store.table g.N.Store.base) c.self.inside.history (entry c.pass.inside.number c.args.event) = subst (λ n. Allowed (setting_of g.N.Store.table g.N.Store.base) c.self.inside.history (entry n c.args.event)) (sym i.2) (subst (λ (x : List Entry × View). Allowed (setting_of g.N.Store.table g.N.Store.base) x.0 (entry x.1.number c.args.event)) (λ k. (sym c.self.view_is k, sym c.pass.view_is k)) c.requires.allowed) in
    let live = ap (λ m. m.0.live) l.seat ∙ ap (λ (m : View). m.live) c.pass.view_is ∙ c.requires.live in
    let held : IsHeld (setting_of g.N.Store.table g.N.Store.base) c.push-answer.new.history c.push-answer.new.seat.me.0 = held_after (setting_of g.N.Store.table g.N.Store.base) _ _ _ _ _ _ own live may p.ok p.err (held_lent (setting_of g.N.Store.table g.N.Store.base) _ _ _ _ i.4 s.2 (ap (λ m. m.0) s.1) (ap (λ m. m.0) l.seat) l.mine l.kin l.apart) in
    (c.give_back.ensures.room.1 ∙ p.seat.0 ∙ l.room.0 ∙ i.0, c.give_back.ensures.right ∙ ap (λ l. (ruler l, [])) held.1, held.4, counted_after _ _ _ _ _ _ _ _ p.ok p.err s.3 (subst (λ (n : ℕ). AreCounted c.self.inside.history → AreCounted (entry n c.args.event ∷ c.self.inside.history)) (sym i.2) (subst (λ (x : List Entry × View). AreCounted x.0 → AreCounted (entry x.1.number c.args.event ∷ x.0)) (λ k. (sym c.self.view_is k, sym c.pass.view_is k)) c.requires.counted)), p.bounded)

pub invariant_of-pass : goal.invariant_of-pass
invariant_of-pass g c =
    let i = c.pass.invariant in
    let s = c.self.invariant in
    let p = c.push-answer.ensures in
    let l = c.lend.ensures in
    let own : c.pass.inside.number ≡ c.lend.new.seat.me.0.number = i.2 ∙ sym (ap (λ m. m.0.number) l.seat) in
    let may : Allowed (setting_of g.N.Store.table g.N.Store.base) c.self.inside.history (entry c.pass.inside.number c.args.event) = subst (λ n. Allowed (setting_of g.N.Store.table g.N.Store.base) c.self.inside.history (entry n c.args.event)) (sym i.2) (subst (λ (x : List Entry × View). Allowed (setting_of g.N.Store.table g.N.Store.base) x.0 (entry x.1.number c.args.event)) (λ k. (sym c.self.view_is k, sym c.pass.view_is k)) c.requires.allowed) in
    let live = ap (λ m. m.0.live) l.seat ∙ ap (λ (m : View). m.live) c.pass.view_is ∙ c.requires.live in
    let held : IsHeld (setting_of g.N.Store.table g.N.Store.base) c.push-answer.new.history c.push-answer.new.seat.me.0 = held_after (setting_of g.N.Store.table g.N.Store.base) _ _ _ _ _ _ own live may p.ok p.err (held_lent (setting_of g.N.Store.table g.N.Store.base) _ _ _ _ i.4 s.2 (ap (λ m. m.0) s.1) (ap (λ m. m.0) l.seat) l.mine l.kin l.apart) in
    (c.give_back.ensures.room.0 ∙ p.seat.0 ∙ l.room.0 ∙ i.0, ap (λ m. m.1) c.give_back.ensures.seat ∙ p.seat.1 ∙ ap (λ m. m.1) l.seat ∙ i.1, i.2 ∙ sym (ap (λ m. m.0.number) l.seat) ∙ sym p.seat.2 ∙ sym (ap (λ m. m.0.number) c.give_back.ensures.seat), i.3 ∙ sym (ap (λ m. m.0.count) l.seat) ∙ sym p.seat.3 ∙ sym (ap (λ m. m.0.count) c.give_back.ensures.seat), rest_after (setting_of g.N.Store.table g.N.Store.base) _ _ _ (ap (λ m. m.0) c.give_back.ensures.seat) held)

pub returns-clause-ok : goal.returns-clause-ok
returns-clause-ok g c =
    let i = c.pass.invariant in
    let s = c.self.invariant in
    let l = c.lend.ensures in
    subst (λ (x : List Entry × View). OnOk c.push-answer.result ((c.push-answer.new.history ≡ entry x.1.number c.args.event ∷ x.0) × (c.give_back.new.seat.me.0 ≡ extends (entry x.1.number c.args.event) x.0 x.1))) (λ k. (c.self.view_is k, c.pass.view_is k))
    (subst (λ (n : ℕ). OnOk c.push-answer.result ((c.push-answer.new.history ≡ entry n c.args.event ∷ c.self.inside.history) × (c.give_back.new.seat.me.0 ≡ extends (entry n c.args.event) c.self.inside.history c.pass.inside.seat.me.0))) i.2
    (own_after c.self.inside.history c.push-answer.new.history c.pass.inside.seat.me.0 c.self.inside.seat.me.0 c.lend.new.seat.me.0 c.push-answer.new.seat.me.0 c.give_back.new.seat.me.0 (entry c.pass.inside.number c.args.event) c.push-answer.result (ap (λ m. m.0) s.1) (ap (λ m. m.0) l.seat) (ap (λ m. m.0) c.give_back.ensures.seat) c.push-answer.ensures.ok i.4.5))

pub push-answer-requires-clause-legal : goal.push-answer-requires-clause-legal
push-answer-requires-clause-legal g c =
    let i = c.pass.invariant in
    let may : Allowed (setting_of g.N.Store.table g.N.Store.base) c.self.inside.history (entry c.pass.inside.number c.args.event) = subst (λ n. Allowed (setting_of g.N.Store.table g.N.Store.base) c.self.inside.history (entry n c.args.event)) (sym i.2) (subst (λ (x : List Entry × View). Allowed (setting_of g.N.Store.table g.N.Store.base) x.0 (entry x.1.number c.args.event)) (λ k. (sym c.self.view_is k, sym c.pass.view_is k)) c.requires.allowed) in
    (setting_of g.N.Store.table g.N.Store.base, (legal_again (setting_of g.N.Store.table g.N.Store.base) c.self.inside.history c.self.invariant.2, may))

pub returns-clause-known : goal.returns-clause-known
returns-clause-known g c = known_at_rest (setting_of g.N.Store.table g.N.Store.base) _ (invariant_of-pass g c).4

pub returns-clause-want : goal.returns-clause-want
returns-clause-want g c = subst (λ p. IfErr c.push-answer.result (IsExactWant p)) c.self.view_is (wants c.self.inside.history c.push-answer.result c.push-answer.ensures.room_left c.push-answer.ensures.full)
