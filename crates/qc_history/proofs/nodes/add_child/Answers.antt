use Rattle.std.proofs.Common.{◌<◌, ◌++◌, ◌∷◌, [], length, arith, sym, ap, ◌∙◌, subst}
use Rattle.qc_history.specs.Spots as spots
use Rattle.qc_history.proofs.Spots.{node_changed, node_kept, on_err, spots_last}
use Rattle.qc_history.proofs.nodes.add_child.Goals as goal

pub returns-in_err-adopt-clause-err : goal.returns-in_err-adopt-clause-err
returns-in_err-adopt-clause-err c =
    on_err c.from_residual-in_err-adopt.result _
    (node_kept c.reserve.new.self.items c.args.parent c.adopt.new.self c.index_mut.result.now (subst (λ xs. c.args.parent < length xs) (sym c.reserve.ensures.items) c.requires.within)
    (c.in_err-adopt.ensures.err ∙ ap spots.spot c.index_mut.ensures.value)
    ∙ ap spots.spots c.reserve.ensures.items)

pub returns-clause-added : goal.returns-clause-added
returns-clause-added c =
    let f = spots.with_child (length c.args.list.now.items) in
    ap spots.spots c.push_reserved.ensures.items
    ∙ spots_last _ c.new.result
    ∙ ap (λ xs. xs ++ spots.spot c.new.result ∷ [])
    (node_changed c.reserve.new.self.items c.args.parent c.adopt.new.self c.index_mut.result.now f (subst (λ xs. c.args.parent < length xs) (sym c.reserve.ensures.items) c.requires.within)
    (c.in_ok-adopt.ensures.ok ∙ ap (λ n. spots.with_child n (spots.spot c.index_mut.result.now)) (omega (arith, c.len-at.ensures, c.reserve.ensures.len, c.args.list.now.ok)) ∙ ap (λ n. f (spots.spot n)) c.index_mut.ensures.value)
    ∙ ap (λ xs. spots.changed (spots.spots xs) c.args.parent f) c.reserve.ensures.items)
    ∙ ap (λ s. spots.changed (spots.spots c.args.list.now.items) c.args.parent f ++ s ∷ []) c.new.ensures
