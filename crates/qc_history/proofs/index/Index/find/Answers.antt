use Rattle.std.proofs.Common.{◌≡◌, ◌+◌, ◌<◌, [], ◌∷◌, length, take, drop, get_or, sym, ap, ◌∙◌, subst, arith, take-append-drop}
use Rattle.std.specs.Prelude.{Some, None, slice_get}
use Rattle.std.specs.Option.{option_copied}
use Rattle.std.proofs.lemmas.Option.{unwrap_or-slice_get}
use Rattle.std.proofs.lemmas.List.{take_more, length-take-le}
use Rattle.qc_history.specs.Spots.{spot, child_at}
use Rattle.qc_history.specs.Places.{place}
use Rattle.qc_history.specs.Index.{Shape, top_at}
use Rattle.qc_history.proofs.Finding.{no_root, only_root, first_and_rest, no_place_below, next_place, child_within}
use Rattle.qc_history.proofs.index.Index.find.Goals as goal

pub returns-in_default-clause-place : goal.returns-in_default-clause-place
returns-in_default-clause-place g c = λ setting past is legal.
    sym (no_root setting past legal) ∙ ap (place past) (sym (only_root c.args.name.now (sym c.number.ensures ∙ c.in_default.is)))

pub returns-in_default-get-clause-place : goal.returns-in_default-get-clause-place
returns-in_default-get-clause-place g c = λ setting past is legal.
    let top = c.in-Some.top in
    let none : place past (top ∷ []) ≡ None = sym (is.by_number top) ∙ ap (λ (x : Shape). top_at x.tops top) (sym c.self.view_is) ∙ sym c.get.ensures.value ∙ ap option_copied c.in_default-get.is in
    sym (no_place_below setting past (top ∷ []) (drop 1 c.args.name.now) legal (omega arith) none)
    ∙ ap (place past) (sym (first_and_rest c.args.name.now top (sym c.number.ensures ∙ c.in-Some.is)))

pub returns-in_default-child-clause-place : goal.returns-in_default-child-clause-place
returns-in_default-child-clause-place g c = λ setting past is legal.
    let k = c.loop-k.k in
    let n = c.args.name.now in
    let number = get_or n k 0 in
    let s = spot c.node.result.now in
    let pos : 0 < length (take k n) = omega (arith, length-take-le k n (omega arith)) in
    let next = next_place setting past c.args.self.now (take k n) number c.loop-k.at s is legal pos (c.loop-k.invariant.place setting past is legal)
    (ap (λ (x : Shape). slice_get x.spots c.loop-k.at) (sym c.self.view_is) ∙ c.node.ensures.node) in
    let told : c.unwrap_or-number.result ≡ number = rw (c.unwrap_or-number.ensures, c.number-in-loop-k.ensures) (unwrap_or-slice_get n k 0) in
    let here : child_at s.children number ≡ None = ap (child_at s.children) (sym told) ∙ sym c.child.ensures ∙ c.in_default-child.is in
    let none : place past (take (k + 1) n) ≡ None = ap (place past) (take_more n k 0 (omega arith)) ∙ sym next ∙ here in
    sym (no_place_below setting past (take (k + 1) n) (drop (k + 1) n) legal (omega (arith, length-take-le (k + 1) n (omega arith))) none)
    ∙ ap (place past) (take-append-drop (k + 1) n)

pub loop-k-preserved : goal.loop-k-preserved
loop-k-preserved g c =
    let k = c.loop-k.k in
    let n = c.args.name.now in
    let number = get_or n k 0 in
    let s = spot c.node.result.now in
    let pos : 0 < length (take k n) = omega (arith, length-take-le k n (omega arith)) in
    let told : c.unwrap_or-number.result ≡ number = rw (c.unwrap_or-number.ensures, c.number-in-loop-k.ensures) (unwrap_or-slice_get n k 0) in
    let here : child_at s.children number ≡ Some c.in-Some-child.next = ap (child_at s.children) (sym told) ∙ sym c.child.ensures ∙ c.in-Some-child.is in
    record {
      place = λ setting past is legal.
          let next = next_place setting past c.args.self.now (take k n) number c.loop-k.at s is legal pos (c.loop-k.invariant.place setting past is legal)
          (ap (λ (x : Shape). slice_get x.spots c.loop-k.at) (sym c.self.view_is) ∙ c.node.ensures.node) in
          ap (place past) (take_more n k 0 (omega arith)) ∙ sym next ∙ here;
      within = subst (λ (x : Shape). c.in-Some-child.next < length x.spots) c.self.view_is (child_within c.self.inside.nodes c.loop-k.at number c.in-Some-child.next s c.node.ensures.within c.node.ensures.node here);
      cost = omega arith;
    }
