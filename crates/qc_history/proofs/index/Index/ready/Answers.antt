use Rattle.std.proofs.Common.{sym, ap, ◌∙◌, subst}
use Rattle.qc_event.specs.History.{ready_in}
use Rattle.qc_history.specs.Places.{IsWhere}
use Rattle.qc_history.specs.Spots.{Spot}
use Rattle.qc_history.proofs.Looking.{not_ready}
use Rattle.qc_history.proofs.Placing.{nowhere, answered_there}
use Rattle.qc_history.proofs.index.Index.ready.Goals as goal

pub returns-in-Some : goal.returns-in-Some
returns-in-Some c = λ setting past is legal.
    subst (IsWhere (λ e. ready_in c.args.name.now e.event) past) (sym (c.ready.ensures ∙ ap (λ (s : Spot). s.ready) (c.in-Some.ensures setting past is legal))) (answered_there (λ e. ready_in c.args.name.now e.event) past)

pub returns-in-None : goal.returns-in-None
returns-in-None c = λ setting past is legal. nowhere _ past (not_ready setting past c.args.name.now legal (c.in-None.ensures setting past is legal))
