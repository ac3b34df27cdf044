use Rattle.std.proofs.Common.{suc, Vec, Global, ◌≡◌, ◌+◌, ◌<◌, ◌∷◌, ◌++◌, length, take, drop, get_or, sym, ap, ◌∙◌, subst, arith, All, vec_len, vec_capacity, drop-cons}
use Rattle.qc_moss.specs.declared.holder.Holder.{Holder}
use Rattle.qc_moss.specs.Locks.{held_at, with_next, is_short}
use Rattle.qc_moss.specs.Follows.{Becomes, HoldsStill}
use Rattle.qc_moss.proofs.Following.{turn_dropped, turn_moved, next_still}
use Rattle.qc_moss.proofs.Shortness.{next_short}
use Rattle.qc_moss.proofs.settling.settle_list.Goals as goal
use Rattle.qc_moss.proofs.settling.settle_list.Goals.{in-Some, in_default}

pub loop-i-preserved : goal.loop-i-preserved
loop-i-preserved g c =
    let i = c.loop-i.i in
    let now = c.loop-i.held.items in
    let old = c.args.held.now.items in
    let h = c.index.result.now in
    let ks = take c.loop-i.kept now in
    let less : i < length now = omega (arith, c.loop-i.held.ok, c.args.held.now.ok, c.loop-i.invariant.len) in
    let less_old : i < length old = omega (arith, c.args.held.now.ok) in
    let next_number : suc i ≡ i + 1 = omega arith in
    let first : drop i now ≡ h ∷ drop (i + 1) now = drop-cons now i h less ∙ ap (λ x. x ∷ drop (suc i) now) (sym c.index.ensures) ∙ ap (λ n. h ∷ drop n now) next_number in
    let first_old : drop i old ≡ get_or old i h ∷ drop (i + 1) old = drop-cons old i h less_old ∙ ap (λ n. get_or old i h ∷ drop n old) next_number in
    let rest : drop (i + 1) now ≡ drop (i + 1) old = cc (first, first_old, c.loop-i.invariant.rest) in
    let next : drop i old ≡ h ∷ drop (i + 1) old = sym c.loop-i.invariant.rest ∙ first ∙ ap (λ t. h ∷ t) rest in
    elim c.match-raised.branch [
      | in-Some w ↦
          let at = w.in-Some.at in
          let taken : take c.match-raised.kept c.match-raised.held.items ≡ with_next ks (held_at h at) =
          ap (λ (v : Vec Holder Global). take c.match-raised.kept v.items) w.held-is ∙ ap (λ n. take n w.place-kept.new.held.items) w.kept-is ∙ w.place-kept.ensures.first ∙ ap (with_next ks) w.held_at.ensures in
          record {
            becomes = λ past tells. subst (λ xs. Becomes past old (xs ++ drop (i + 1) old)) (sym taken)
                (turn_moved past old ks (drop (i + 1) old) h at (subst (λ xs. Becomes past old (ks ++ xs)) next (c.loop-i.invariant.becomes past tells)) (c.raised.ensures.up past at tells w.in-Some.is));
            still = λ past tells. subst (All (HoldsStill past)) (sym taken)
                (next_still past ks (held_at h at) (c.loop-i.invariant.still past tells) (record { alive = c.raised.ensures.alive past at tells w.in-Some.is; not_committed = c.raised.ensures.still past at tells w.in-Some.is }));
            short = ap is_short taken ∙ next_short ks (held_at h at) c.loop-i.invariant.short;
            rest = ap (λ (v : Vec Holder Global). drop (i + 1) v.items) w.held-is ∙ w.place-kept.ensures.rest (i + 1) (omega (arith, c.loop-i.invariant.bound)) ∙ rest;
            len = ap (λ (v : Vec Holder Global). vec_len v) w.held-is ∙ w.place-kept.ensures.len ∙ c.loop-i.invariant.len;
            room = ap (λ (v : Vec Holder Global). vec_capacity v) w.held-is ∙ w.place-kept.ensures.room ∙ c.loop-i.invariant.room;
            bound = omega (arith, w.kept-is, w.place-kept.ensures.bound, c.loop-i.invariant.bound);
          }
      | in_default w ↦
          let taken : take c.match-raised.kept c.match-raised.held.items ≡ ks =
          ap (λ (v : Vec Holder Global). take c.match-raised.kept v.items) w.held-is ∙ ap (λ n. take n now) w.kept-is in
          record {
            becomes = λ past tells. subst (λ xs. Becomes past old (xs ++ drop (i + 1) old)) (sym taken)
                (turn_dropped past old ks (drop (i + 1) old) h (subst (λ xs. Becomes past old (ks ++ xs)) next (c.loop-i.invariant.becomes past tells)) (c.raised.ensures.gone past tells w.in_default.is));
            still = λ past tells. subst (All (HoldsStill past)) (sym taken) (c.loop-i.invariant.still past tells);
            short = ap is_short taken ∙ c.loop-i.invariant.short;
            rest = ap (λ (v : Vec Holder Global). drop (i + 1) v.items) w.held-is ∙ rest;
            len = ap (λ (v : Vec Holder Global). vec_len v) w.held-is ∙ c.loop-i.invariant.len;
            room = ap (λ (v : Vec Holder Global). vec_capacity v) w.held-is ∙ c.loop-i.invariant.room;
            bound = omega (arith, w.kept-is, c.loop-i.invariant.bound);
          }
    ]
