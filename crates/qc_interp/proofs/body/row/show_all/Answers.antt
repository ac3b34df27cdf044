use Rattle.std.proofs.Common.{◌∙◌, refl, sym, ap, subst, slice_index_or, length, arith}
use Rattle.qc_script.specs.Calls.{MeetsLink}
use Rattle.qc_interp.specs.declared.body.branch.Branch.{Branch as Held}
use Rattle.qc_interp.specs.AtOnce.{stands, WasShown}
use Rattle.qc_interp.proofs.Listing.InOrder.{as_it_was, one_so_far}
use Rattle.qc_interp.proofs.Branching.Shown.{each_at, made_on, was_shown}
use Rattle.qc_interp.proofs.body.row.show_all.Goals as goal

pub show-requires-clause-branch_met : goal.show-requires-clause-branch_met
show-requires-clause-branch_met g c =
    let view = g.T.Tx.view in
    let inv = c.loop-branch.invariant in
    let olds = c.args.branches.now in
    subst (λ b. MeetsLink (stands view b).view) (sym (as_it_was (stands view) (WasShown (view c.args.tx.now).seen) olds c.loop-branch.branches c.loop-branch.branch-index inv.shown c.branch-item.result c.loop-branch-test.true))
    (each_at (stands view) (λ b. MeetsLink b.view) olds c.loop-branch.branch-index c.branch-item.result c.loop-branch-test.true inv.all_met)

pub loop-branch-preserved : goal.loop-branch-preserved
loop-branch-preserved g c =
    let view = g.T.Tx.view in
    let inv = c.loop-branch.invariant in
    let olds = c.args.branches.now in
    let i = c.loop-branch.branch-index in
    let d = c.branch-item.result in
    let v = view c.args.tx.now in
    let w = view c.loop-branch.tx in
    let x = view c.show.new.self in
    let shown = view c.show.new.branch in
    let was = as_it_was (stands view) (WasShown v.seen) olds c.loop-branch.branches i inv.shown d c.loop-branch-test.true in
    let at = slice_index_or c.loop-branch.branches i d in
    let new : Held g.row.T.Denot = record { tx = c.show.new.branch; body = at.body; first = at.first; came = at.came } in
    record {
      met = c.show.ensures.met;
      client = c.show.ensures.showed.client ∙ inv.client;
      made = made_on v w x (stands view at) (stands view new) inv.client inv.made shown c.show.ensures.showed c.show.ensures.branch_met refl;
      none = λ empty. let below = c.loop-branch-test.true in let z : ⊥ = omega (arith, ap length empty, below) in absurd z;
      all_met = inv.all_met;
      shown = one_so_far (stands view) (WasShown v.seen) olds c.loop-branch.branches i inv.shown d c.loop-branch-test.true new
          (subst (λ b. WasShown v.seen (stands view b) (stands view new)) was (was_shown v w x (stands view at) (stands view new) inv.client inv.made shown c.show.ensures.showed c.show.ensures.branch_met refl));
    }
