use Rattle.std.proofs.Common.{◌≡◌, ◌+◌, suc, true, false, ◌++◌, ◌∷◌, [], length, get_or, drop, sym, ap, ◌∙◌, arith}
use Rattle.std.specs.Prelude.{Some, is_some, not, slice_get, find}
use Rattle.std.proofs.lemmas.List.{drop_all}
use Rattle.std.proofs.lemmas.Option.{slice_get-get_or}
use Rattle.qc_event.specs.History.{children}
use Rattle.qc_history.specs.Places.{child_places}
use Rattle.qc_history.specs.Spots.{Spot, spot}
use Rattle.qc_history.proofs.Children.{unended, child_open, child_ended}
use Rattle.qc_history.proofs.Finding.{spot_is}
use Rattle.qc_history.proofs.Looking.{unknown}
use Rattle.qc_history.proofs.Placing.{as_many_children}
use Rattle.qc_history.proofs.index.Index.open_child.Goals as goal

pub returns-in_default : goal.returns-in_default
returns-in_default c = λ setting past is legal.
    sym (ap (find (unended past)) (unknown setting past c.args.name.now legal c.requires.below_a_top (sym (c.place.ensures.place setting past is legal) ∙ c.in_default.is)).no_children)

pub at-requires-in-loop-k : goal.at-requires-in-loop-k
at-requires-in-loop-k c =
    let places = c.children-children.result.now in
    c.at.ensures.within c.in-Some.at (spot c.at.result.now) c.loop-k.k (get_or places c.loop-k.k 0) c.at.ensures.node
    (ap (λ xs. slice_get xs c.loop-k.k) (sym c.children-children.ensures) ∙ slice_get-get_or places c.loop-k.k 0 (omega arith))

pub overflow_cast-k : goal.overflow_cast-k
overflow_cast-k c =
    let less = c.at.ensures.fewer c.in-Some.at (spot c.at.result.now) c.at.ensures.node in
    omega (arith, less, ap length c.children-children.ensures, c.at.ensures.bounded)

pub overflow_add-k : goal.overflow_add-k
overflow_add-k c =
    let less = c.at.ensures.fewer c.in-Some.at (spot c.at.result.now) c.at.ensures.node in
    omega (arith, less, ap length c.children-children.ensures, c.at.ensures.bounded)

pub returns-then-is_none : goal.returns-then-is_none
returns-then-is_none c = λ setting past is legal.
    let n = c.args.name.now in
    let k = c.loop-k.k in
    let places = c.children-children.result.now in
    let placed = sym (c.place.ensures.place setting past is legal) ∙ c.in-Some.is in
    let here : slice_get (child_places past n) k ≡ Some (get_or places k 0) =
    ap (λ (s : Spot). slice_get s.children k) (sym (spot_is past c.args.self.now n c.in-Some.at (spot c.at.result.now) is placed c.at.ensures.node))
    ∙ ap (λ xs. slice_get xs k) (sym c.children-children.ensures) ∙ slice_get-get_or places k 0 (omega arith) in
    let none : is_some (spot c.at-in-loop-k.result.now).end ≡ false = ap is_some (sym c.end.ensures) ∙ c.is_none.ensures ∙ ap not c.if-is_none.true in
    let next : k + 1 ≡ suc k = omega arith in
    ap Some (c.child.ensures ∙ ap (λ x. n ++ x ∷ []) next)
    ∙ sym (c.loop-k.invariant setting past is legal ∙ child_open setting past c.args.self.now n k (get_or places k 0) (spot c.at-in-loop-k.result.now) is legal c.requires.below_a_top here c.at-in-loop-k.ensures.node none)

pub loop-k-preserved : goal.loop-k-preserved
loop-k-preserved c = λ setting past is legal.
    let n = c.args.name.now in
    let k = c.loop-k.k in
    let places = c.children-children.result.now in
    let placed = sym (c.place.ensures.place setting past is legal) ∙ c.in-Some.is in
    let here : slice_get (child_places past n) k ≡ Some (get_or places k 0) =
    ap (λ (s : Spot). slice_get s.children k) (sym (spot_is past c.args.self.now n c.in-Some.at (spot c.at.result.now) is placed c.at.ensures.node))
    ∙ ap (λ xs. slice_get xs k) (sym c.children-children.ensures) ∙ slice_get-get_or places k 0 (omega arith) in
    let some : is_some (spot c.at-in-loop-k.result.now).end ≡ true = ap is_some (sym c.end.ensures) ∙ c.is_none.ensures ∙ ap not c.if-is_none.false in
    let next : suc k ≡ k + 1 = omega arith in
    c.loop-k.invariant setting past is legal
    ∙ child_ended setting past c.args.self.now n k (get_or places k 0) (spot c.at-in-loop-k.result.now) is legal c.requires.below_a_top here c.at-in-loop-k.ensures.node some
    ∙ ap (λ i. find (unended past) (drop i (children past n))) next

pub returns : goal.returns
returns c = λ setting past is legal.
    let n = c.args.name.now in
    let places = c.children-children.result.now in
    let placed = sym (c.place.ensures.place setting past is legal) ∙ c.in-Some.is in
    let long : length places ≡ length (children past n) =
    ap length (c.children-children.ensures ∙ ap (λ (s : Spot). s.children) (spot_is past c.args.self.now n c.in-Some.at (spot c.at.result.now) is placed c.at.ensures.node)) ∙ as_many_children past n in
    sym (c.loop-k.invariant setting past is legal ∙ ap (find (unended past)) (drop_all c.loop-k.k (children past n) (omega (arith, long))))
