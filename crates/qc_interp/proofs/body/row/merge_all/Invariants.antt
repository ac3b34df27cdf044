use Rattle.std.proofs.Common.{◌≡◌, map, Ok}
use Rattle.std.specs.Vec.Iter.{into_iter_items}
use Rattle.qc_script.specs.Calls.{MeetsLink}
use Rattle.qc_script.specs.Client.{ClientView}
use Rattle.qc_interp.specs.declared.body.branch.BranchCame.TheVariants as came
use Rattle.qc_interp.specs.AtOnce.{stands, AreOut, MergedInTurn, row_came}
use Rattle.qc_interp.proofs.body.row.merge_all.Given as goal

abbrev pub invariant-loop-branch : goal.invariant-loop-branch
invariant-loop-branch g l =
    let view = g.T.Tx.view in
    let left = map (stands view) (into_iter_items l.branch-iterator) in
    record {
      met : MeetsLink (view l.tx);
      out : AreOut (view l.tx).client.out (view l.tx).client.net left;
      front : (x : ClientView) → MergedInTurn (view l.tx) left x → MergedInTurn (view l.fn.tx) (map (stands view) l.fn.branches.items) x;
      came : row_came l.so_far left ≡ row_came (Ok came.Through) (map (stands view) l.fn.branches.items);
    }
