-- Where the offer goes, by whether its top has ended, and whether it is taken.
use Rattle.std.proofs.Common.{◌≡◌, ◌≤◌, ◌<◌, ◌⊎◌, inl, inr, ◌++◌, ◌∷◌, [], List, length, true, false, ap, sym, ◌∙◌, subst, arith}
use Rattle.qc_group.specs.declared.waiting.Waiting.{Waiting}
use Rattle.qc_group.specs.Draws.{IsDraw}
use Rattle.qc_group.specs.Offers.{is_taken}
use Rattle.qc_group.proofs.Placing.{draws_on, drops_on, is_open_offer, keeps_on}
use Rattle.qc_group.proofs.offers.place.Goals as goal
use Rattle.qc_group.proofs.offers.place.Goals.{else-len-most-via-then-len-most+else-not-is_taken, else-len-most-via-else-len-most}

pub returns-then-ended-clause-places : goal.returns-then-ended-clause-places
returns-then-ended-clause-places g c = λ offers draw.
    drops_on c.args.own.now c.args.most c.args.item c.look-item.result.0 offers c.args.drawn.now.items c.args.left.now.items c.look-item.ensures.later (sym c.look-item.ensures.ended ∙ c.if-ended.true) draw

pub returns-then-not-is_taken-clause-places : goal.returns-then-not-is_taken-clause-places
returns-then-not-is_taken-clause-places g c = λ offers draw.
    let w = c.look-item.result.0 in
    let less : length c.args.drawn.now.items < c.args.most = omega (arith, c.if-len-most.true, c.len.ensures, c.args.drawn.now.ok.0) in
    let other : is_taken c.args.own.now c.args.drawn.now.items w.top ≡ false = ap (λ (ws : List (Waiting g.row.N.Denot g.N.Store)). is_taken c.args.own.now ws w.top) (sym c.as_slice.ensures.value) ∙ (sym c.is_taken.ensures ∙ c.if-not-is_taken.true) in
    subst (λ (ws : List (Waiting g.row.N.Denot g.N.Store)). IsDraw c.args.own.now c.args.most (offers ++ c.args.item ∷ []) ws c.args.left.now.items) (sym c.push_reserved.ensures.items)
    (draws_on c.args.own.now c.args.most c.args.item w offers c.args.drawn.now.items c.args.left.now.items c.look-item.ensures.later (is_open_offer w (sym c.look-item.ensures.ended ∙ c.if-ended.false)) less other draw)

pub returns-clause-places : goal.returns-clause-places
returns-clause-places g c = λ offers draw.
    let w = c.look-item.result.0 in
    let why : (c.args.most ≤ length c.args.drawn.now.items) ⊎ (is_taken c.args.own.now c.args.drawn.now.items w.top ≡ true) = elim c.else-len-most.branch [
      | else-len-most-via-then-len-most+else-not-is_taken b ↦ inr (ap (λ (ws : List (Waiting g.row.N.Denot g.N.Store)). is_taken c.args.own.now ws w.top) (sym b.as_slice.ensures.value) ∙ (sym b.is_taken.ensures ∙ b.if-not-is_taken.false))
      | else-len-most-via-else-len-most b ↦ inl (omega (arith, b.if-len-most.false, c.len.ensures, c.args.drawn.now.ok.0))
    ] in
    subst (λ (ws : List (Waiting g.row.N.Denot g.N.Store)). IsDraw c.args.own.now c.args.most (offers ++ c.args.item ∷ []) c.args.drawn.now.items ws) (sym c.push_reserved-2.ensures.items)
    (keeps_on c.args.own.now c.args.most c.args.item w offers c.args.drawn.now.items c.args.left.now.items c.look-item.ensures.later (is_open_offer w (sym c.look-item.ensures.ended ∙ c.if-ended.false)) why draw)
