use Rattle.std.proofs.Common.{◌≡◌, ◌+◌, ◌<◌, true, false, [], ◌∷◌, length, take, get_or, sym, ap, ◌∙◌, subst, arith, take_all}
use Rattle.std.specs.Prelude.{Some, None, slice_get}
use Rattle.std.specs.Option.{option_copied}
use Rattle.std.proofs.lemmas.Option.{unwrap_or-slice_get}
use Rattle.std.proofs.lemmas.List.{take_more, length-take-le}
use Rattle.qc_event.specs.Dead.{outcome, is_aborted, dead}
use Rattle.qc_event.proofs.Ancestors.{find_no_ancestor}
use Rattle.qc_history.specs.Spots.{spot, child_at}
use Rattle.qc_history.specs.Places.{place}
use Rattle.qc_history.specs.Index.{Shape, top_at}
use Rattle.qc_event.proofs.RootAndTops.{root_alive}
use Rattle.qc_history.proofs.Finding.{only_root, next_place, child_within, one_root, stands_so, no_dead, dead_here, alive_more, take_first, has_number}
use Rattle.qc_history.proofs.index.Index.dead_in.Goals as goal

pub returns-in_default-clause-dead : goal.returns-in_default-clause-dead
returns-in_default-clause-dead g c = λ setting past is legal.
    sym (ap (dead past) (only_root c.args.name.now (sym c.number.ensures ∙ c.in_default.is)) ∙ root_alive setting past legal)

pub returns-in_default-get-clause-dead : goal.returns-in_default-get-clause-dead
returns-in_default-get-clause-dead g c = λ setting past is legal.
    let n = c.args.name.now in
    let top = c.in-Some.top in
    let found = sym c.number.ensures ∙ c.in-Some.is in
    let none : place past (top ∷ []) ≡ None = sym (is.by_number top) ∙ ap (λ (x : Shape). top_at x.tops top) (sym c.self.view_is) ∙ sym c.get.ensures.value ∙ ap option_copied c.in_default-get.is in
    sym (no_dead setting past n 1 legal (omega arith) (omega (arith, has_number n top found)) (one_root setting past n legal) (ap (place past) (take_first n top found) ∙ none))

pub loop-k-init : goal.loop-k-init
loop-k-init g c =
    let n = c.args.name.now in
    let top = c.in-Some.top in
    let found = sym c.number.ensures ∙ c.in-Some.is in
    let first : top_at c.args.self.now.tops top ≡ Some c.in-Some-get.first.now = ap (λ (x : Shape). top_at x.tops top) (sym c.self.view_is) ∙ sym c.get.ensures.value ∙ ap option_copied c.in-Some-get.is in
    record {
      place = λ setting past is legal. ap (place past) (take_first n top found) ∙ sym (is.by_number top) ∙ first;
      alive = λ setting past is legal. one_root setting past n legal;
      within = subst (λ (x : Shape). c.in-Some-get.first.now < length x.spots) c.self.view_is (c.self.invariant.inside top c.in-Some-get.first.now (ap (λ (x : Shape). top_at x.tops top) c.self.view_is ∙ first));
      cost = omega arith;
    }

pub returns-then-is_aborted-clause-dead : goal.returns-then-is_aborted-clause-dead
returns-then-is_aborted-clause-dead g c = λ setting past is legal.
    let k = c.loop-k.k in
    let n = c.args.name.now in
    let s = spot c.node-node.result.now in
    let stands = stands_so past c.args.self.now (take k n) c.loop-k.at s is (c.loop-k.invariant.place setting past is legal) (ap (λ (x : Shape). slice_get x.spots c.loop-k.at) (sym c.self.view_is) ∙ c.node-node.ensures.node) in
    let here : is_aborted (outcome past (take k n)) ≡ true = ap is_aborted (sym stands ∙ sym c.outcome.ensures) ∙ sym c.is_aborted.ensures ∙ c.if-is_aborted.true in
    ap Some c.ancestor.ensures ∙ sym (dead_here past n k (omega arith) (c.loop-k.invariant.alive setting past is legal) here)

pub returns-in_default-child-clause-dead : goal.returns-in_default-child-clause-dead
returns-in_default-child-clause-dead g c = λ setting past is legal.
    let k = c.loop-k.k in
    let n = c.args.name.now in
    let number = get_or n k 0 in
    let s = spot c.node-node.result.now in
    let found = ap (λ (x : Shape). slice_get x.spots c.loop-k.at) (sym c.self.view_is) ∙ c.node-node.ensures.node in
    let placed = c.loop-k.invariant.place setting past is legal in
    let pos : 0 < length (take k n) = omega (arith, length-take-le k n (omega arith)) in
    let next = next_place setting past c.args.self.now (take k n) number c.loop-k.at s is legal pos placed found in
    let told : c.unwrap_or-number.result ≡ number = rw (c.unwrap_or-number.ensures, c.number-in-loop-k.ensures) (unwrap_or-slice_get n k 0) in
    let below : child_at s.children number ≡ None = ap (child_at s.children) (sym told) ∙ sym c.child.ensures ∙ c.in_default-child.is in
    let here : is_aborted (outcome past (take k n)) ≡ false = ap is_aborted (sym (stands_so past c.args.self.now (take k n) c.loop-k.at s is placed found) ∙ sym c.outcome.ensures) ∙ sym c.is_aborted.ensures ∙ c.if-is_aborted.false in
    sym (no_dead setting past n (k + 1) legal (omega arith) (omega arith) (alive_more past n k (c.loop-k.invariant.alive setting past is legal) here)
    (ap (place past) (take_more n k 0 (omega arith)) ∙ sym next ∙ below))

pub loop-k-preserved : goal.loop-k-preserved
loop-k-preserved g c =
    let k = c.loop-k.k in
    let n = c.args.name.now in
    let number = get_or n k 0 in
    let s = spot c.node-node.result.now in
    let found = ap (λ (x : Shape). slice_get x.spots c.loop-k.at) (sym c.self.view_is) ∙ c.node-node.ensures.node in
    let pos : 0 < length (take k n) = omega (arith, length-take-le k n (omega arith)) in
    let told : c.unwrap_or-number.result ≡ number = rw (c.unwrap_or-number.ensures, c.number-in-loop-k.ensures) (unwrap_or-slice_get n k 0) in
    let below : child_at s.children number ≡ Some c.in-Some-child.next = ap (child_at s.children) (sym told) ∙ sym c.child.ensures ∙ c.in-Some-child.is in
    record {
      place = λ setting past is legal.
          ap (place past) (take_more n k 0 (omega arith)) ∙ sym (next_place setting past c.args.self.now (take k n) number c.loop-k.at s is legal pos (c.loop-k.invariant.place setting past is legal) found) ∙ below;
      alive = λ setting past is legal.
          let here : is_aborted (outcome past (take k n)) ≡ false = ap is_aborted (sym (stands_so past c.args.self.now (take k n) c.loop-k.at s is (c.loop-k.invariant.place setting past is legal) found) ∙ sym c.outcome.ensures) ∙ sym c.is_aborted.ensures ∙ c.if-is_aborted.false in
          alive_more past n k (c.loop-k.invariant.alive setting past is legal) here;
      within = subst (λ (x : Shape). c.in-Some-child.next < length x.spots) c.self.view_is (child_within c.self.inside.nodes c.loop-k.at number c.in-Some-child.next s c.node-node.ensures.within c.node-node.ensures.node below);
      cost = omega arith;
    }

pub returns-then-is_aborted-2-clause-dead : goal.returns-then-is_aborted-2-clause-dead
returns-then-is_aborted-2-clause-dead g c = λ setting past is legal.
    let k = c.loop-k.k in
    let n = c.args.name.now in
    let pos = has_number n c.in-Some.top (sym c.number.ensures ∙ c.in-Some.is) in
    let last : k ≡ length n = omega (arith, pos) in
    let stands = stands_so past c.args.self.now (take k n) c.loop-k.at (spot c.node.result.now) is (c.loop-k.invariant.place setting past is legal) (ap (λ (x : Shape). slice_get x.spots c.loop-k.at) (sym c.self.view_is) ∙ c.node.ensures.node) in
    let here : is_aborted (outcome past (take k n)) ≡ true = ap is_aborted (sym stands ∙ sym c.outcome-2.ensures) ∙ sym c.is_aborted-2.ensures ∙ c.if-is_aborted-2.true in
    ap Some (sym (take_all k n (omega (arith, last)))) ∙ sym (dead_here past n k (omega (arith, last)) (c.loop-k.invariant.alive setting past is legal) here)

pub returns-clause-dead : goal.returns-clause-dead
returns-clause-dead g c = λ setting past is legal.
    let k = c.loop-k.k in
    let n = c.args.name.now in
    let pos = has_number n c.in-Some.top (sym c.number.ensures ∙ c.in-Some.is) in
    let last : k ≡ length n = omega (arith, pos) in
    let stands = stands_so past c.args.self.now (take k n) c.loop-k.at (spot c.node.result.now) is (c.loop-k.invariant.place setting past is legal) (ap (λ (x : Shape). slice_get x.spots c.loop-k.at) (sym c.self.view_is) ∙ c.node.ensures.node) in
    let here : is_aborted (outcome past (take k n)) ≡ false = ap is_aborted (sym stands ∙ sym c.outcome-2.ensures) ∙ sym c.is_aborted-2.ensures ∙ c.if-is_aborted-2.false in
    sym (find_no_ancestor (λ a. is_aborted (outcome past a)) n (λ j h. alive_more past n k (c.loop-k.invariant.alive setting past is legal) here j (omega (arith, last, h))))
