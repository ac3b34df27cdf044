use Rattle.std.proofs.Common.{◌∙◌, sym, ap, subst, map}
use Rattle.std.specs.Vec.Iter.{into_iter_items}
use Rattle.qc_interp.specs.AtOnce as at_once
use Rattle.qc_interp.specs.AtOnce.{stands, AreOut, MergedInTurn, row_came}
use Rattle.qc_interp.proofs.Stepping.Plans.{must_of}
use Rattle.qc_interp.proofs.body.row.merge_all.Goals as goal

pub merge-requires-clause-out : goal.merge-requires-clause-out
merge-requires-clause-out g c = (subst (AreOut (g.T.Tx.view c.loop-branch.tx).client.out (g.T.Tx.view c.loop-branch.tx).client.net) (ap (map (stands g.T.Tx.view)) c.in-Some.ensures.steps.0) c.loop-branch.invariant.out).0

pub loop-branch-preserved : goal.loop-branch-preserved
loop-branch-preserved g c =
    let view = g.T.Tx.view in
    let inv = c.loop-branch.invariant in
    let u = view c.loop-branch.tx in
    let w = view c.merge.new.self in
    let b = stands view c.in-Some.branch in
    let left = map (stands view) (into_iter_items c.next.new.self) in
    let next = ap (map (stands view)) c.in-Some.ensures.steps.0 in
    record {
      met = c.merge.ensures.met;
      out = subst (λ d. AreOut d.out d.net left) (sym c.merge.ensures.merged.client) (subst (AreOut u.client.out u.client.net) next inv.out).4;
      front = λ x chain. inv.front x (subst (λ l. MergedInTurn u l x) (sym next) (w, c.merge.ensures.merged, chain));
      came = ap (λ r. row_came r left) (c.came_behind-so_far.ensures ∙ ap (λ must. at_once.came_behind c.loop-branch.so_far must c.in-Some.branch.came) (sym (must_of c.in-Some.branch.body.now))) ∙ sym (ap (row_came c.loop-branch.so_far) next) ∙ inv.came;
    }
