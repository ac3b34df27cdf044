use Rattle.std.proofs.Common.{◌≡◌, sym, subst}
use Rattle.std.specs.Prelude.{IfOk}
use Rattle.qc_event.specs.History.{Past}
use Rattle.qc_event.specs.Legal.{Legal}
use Rattle.qc_event.specs.Listed.{aborted_below}
use Rattle.qc_history.proofs.history.History.aborted_below.Goals as goal

pub aborted_below-requires-clause-kept : goal.aborted_below-requires-clause-kept
aborted_below-requires-clause-kept c =
    (c.requires.legal.0, c.self.invariant.2, c.self.invariant.1, subst (Legal c.requires.legal.0) (sym c.self.view_is) c.requires.legal.1)

pub returns : goal.returns
returns c =
    subst (λ (p : Past). IfOk c.aborted_below.result (λ found. found.items ≡ aborted_below p c.args.top.now)) c.self.view_is c.aborted_below.ensures
