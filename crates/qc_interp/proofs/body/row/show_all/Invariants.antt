use Rattle.std.proofs.Common.{◌≡◌, [], map}
use Rattle.std.specs.List.{AllByRecursion}
use Rattle.qc_script.specs.Calls.{MeetsLink}
use Rattle.qc_script.specs.Client.{Made}
use Rattle.qc_interp.specs.AtOnce.{stands, WasShown}
use Rattle.qc_interp.proofs.Listing.InOrder.{SoFar}
use Rattle.qc_interp.proofs.body.row.show_all.Given as goal

abbrev pub invariant-loop-branch : goal.invariant-loop-branch
invariant-loop-branch g l =
    let view = g.T.Tx.view in
    record {
      met : MeetsLink (view l.tx);
      client : (view l.tx).client ≡ (view l.fn.tx).client;
      made : Made (view l.fn.tx).client [] (view l.fn.tx).seen (view l.tx).seen;
      none : l.fn.branches ≡ [] → (view l.tx).seen ≡ (view l.fn.tx).seen;
      all_met : AllByRecursion (λ b. MeetsLink b.view) (map (stands view) l.fn.branches);
      shown : SoFar (stands view) (WasShown (view l.fn.tx).seen) l.fn.branches l.branches l.branch-index;
    }
