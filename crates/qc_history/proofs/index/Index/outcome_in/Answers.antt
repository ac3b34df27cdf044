use Rattle.std.proofs.Common.{arith, sym, ◌∙◌}
use Rattle.qc_history.proofs.Finding.{unplaced_live}
use Rattle.qc_history.proofs.index.Index.outcome_in.Goals as goal

pub returns-in-Some-clause-cost : goal.returns-in-Some-clause-cost
returns-in-Some-clause-cost g c =
    let pos = c.find.ensures.named c.in-Some.at c.in-Some.is in
    omega (arith, pos)

pub returns-in-None-clause-outcome : goal.returns-in-None-clause-outcome
returns-in-None-clause-outcome g c = λ setting past is legal.
    sym (unplaced_live setting past c.args.name.now legal (sym (c.find.ensures.place setting past is legal) ∙ c.in-None.is))
