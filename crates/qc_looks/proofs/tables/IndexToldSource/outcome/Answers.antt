use Rattle.std.proofs.Common.{ap, ◌∙◌}
use Rattle.qc_event.specs.Dead.{outcome}
use Rattle.qc_looks.proofs.tables.IndexToldSource.outcome.Goals as goal

pub returns : goal.returns
returns c = λ past tells. c.outcome.ensures tells.1.0 tells.1.1 ∙ ap (λ p. outcome p c.args.name.now) tells.0
