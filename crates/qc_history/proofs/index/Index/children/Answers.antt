use Rattle.std.proofs.Common.{sym, ap, ◌∙◌, length}
use Rattle.qc_history.specs.Spots.{Spot}
use Rattle.qc_history.proofs.Placing.{as_many_children}
use Rattle.qc_history.proofs.Looking.{unknown}
use Rattle.qc_history.proofs.index.Index.children.Goals as goal

pub returns-in-Some : goal.returns-in-Some
returns-in-Some c = λ setting past is legal.
    ap length (c.children.ensures ∙ ap (λ (s : Spot). s.children) (c.in-Some.ensures setting past is legal)) ∙ as_many_children past c.args.name.now

pub returns-in-None : goal.returns-in-None
returns-in-None c = λ setting past is legal. sym (ap length (unknown setting past c.args.name.now legal c.requires (c.in-None.ensures setting past is legal)).no_children)
