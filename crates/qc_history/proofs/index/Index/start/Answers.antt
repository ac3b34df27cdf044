use Rattle.std.proofs.Common.{sym, ap, ◌∙◌, subst}
use Rattle.qc_event.specs.History.{start_in}
use Rattle.qc_history.specs.Places.{IsWhere}
use Rattle.qc_history.specs.Spots.{Spot}
use Rattle.qc_history.proofs.Looking.{unstarted}
use Rattle.qc_history.proofs.Placing.{nowhere, answered_there}
use Rattle.qc_history.proofs.index.Index.start.Goals as goal

pub returns-in-Some : goal.returns-in-Some
returns-in-Some c = λ setting past is legal.
    subst (IsWhere (λ e. start_in c.args.name.now e.seat e.event) past) (sym (c.start.ensures ∙ ap (λ (s : Spot). s.start) (c.in-Some.ensures setting past is legal))) (answered_there (λ e. start_in c.args.name.now e.seat e.event) past)

pub returns-in-None : goal.returns-in-None
returns-in-None c = λ setting past is legal. nowhere _ past (unstarted past c.args.name.now (c.in-None.ensures setting past is legal))
