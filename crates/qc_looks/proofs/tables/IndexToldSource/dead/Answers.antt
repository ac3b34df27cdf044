use Rattle.std.proofs.Common.{ap, ◌∙◌}
use Rattle.qc_event.specs.Dead.{dead}
use Rattle.qc_looks.proofs.tables.IndexToldSource.dead.Goals as goal

pub returns : goal.returns
returns c = λ past tells. c.dead.ensures tells.1.0 tells.1.1 ∙ ap (λ p. dead p c.args.name.now) tells.0
