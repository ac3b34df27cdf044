-- All offers are turned round, and placed from the last one on.
use Rattle.std.proofs.Common.{◌≡◌, ◌++◌, ◌∷◌, [], List, length, reverse, ap, sym, ◌∙◌, subst, append_assoc, arith}
use Rattle.std.proofs.lemmas.List.{reverse-append, reverse-reverse, with_items_is}
use Rattle.qc_group.specs.declared.waiting.Waiting.{Waiting}
use Rattle.qc_group.specs.Draws.{IsDraw}
use Rattle.qc_group.proofs.Placing.{all_open, no_draw}
use Rattle.qc_group.proofs.offers.Offers.draw.Goals as goal

pub loop-item-init : goal.loop-item-init
loop-item-init g c =
    let it = c.args.self.now.items in
    let turned : c.reverse.new.self ≡ reverse it.items = c.reverse.ensures.after ∙ ap reverse c.as_mut_slice.ensures.value in
    let many : length c.reverse.new.self ≡ it.len = c.reverse.ensures.len ∙ c.as_mut_slice.ensures.len in
    record {
      divided = (
        [],
        ap reverse (with_items_is it c.reverse.new.self many) ∙ (ap reverse turned ∙ reverse-reverse it.items),
        subst (λ (ws : List (Waiting g.row.N.Denot g.N.Store)). IsDraw c.args.own.now c.args.most [] ws c.in_ok-left.left.items) (sym c.in_ok-drawn.ensures.items)
            (subst (λ (ws : List (Waiting g.row.N.Denot g.N.Store)). IsDraw c.args.own.now c.args.most [] [] ws) (sym c.in_ok-left.ensures.items)
            (no_draw c.args.own.now c.args.most)),
      );
      room = omega (arith, c.in_ok-left.ensures.len, c.in_ok-left.ensures.capacity, c.len-waiting.ensures);
      few = omega (arith, c.in_ok-drawn.ensures.len);
      room_drawn = omega (arith, c.in_ok-drawn.ensures.capacity, c.min-room.ensures, c.len-waiting.ensures);
    }

pub loop-item-preserved : goal.loop-item-preserved
loop-item-preserved g c =
    let before = c.loop-item.invariant.divided in
    let item = c.in-Some.item in
    let left : c.loop-item.self.items.items ≡ c.pop.new.self.items ++ item ∷ [] = c.in-Some.ensures.items in
    record {
      divided = (
        before.0 ++ item ∷ [],
        append_assoc before.0 (item ∷ []) (reverse c.pop.new.self.items) ∙ (ap (λ (ws : List (Waiting g.row.N.Denot g.N.Store)). before.0 ++ ws) (sym (ap reverse left ∙ reverse-append c.pop.new.self.items (item ∷ []))) ∙ before.1),
        c.place.ensures.places before.0 before.2,
      );
      room = omega (arith, c.place.ensures.room.0, c.place.ensures.one.0, c.in-Some.ensures.cases, c.loop-item.invariant.room);
      few = omega (arith, c.place.ensures.one.1, c.in-Some.ensures.cases, c.loop-item.invariant.few);
      room_drawn = omega (arith, c.place.ensures.room.1, c.loop-item.invariant.room_drawn);
    }

pub returns-clause-open : goal.returns-clause-open
returns-clause-open g c =
    let it = c.loop-item.invariant.divided in
    all_open it.0 c.loop-item.drawn.items c.loop-item.left.items it.2.divided
