use Rattle.std.proofs.Common.{ap, ◌∙◌}
use Rattle.qc_event.specs.Dead.{dead}
use Rattle.qc_looks.specs.Indexed.{Known}
use Rattle.qc_looks.proofs.indexed.IndexedLooks.dead.Goals as goal

pub returns : goal.returns
returns c = c.dead.ensures _ c.self.invariant.legal ∙ ap (λ (k : Known). dead k.past c.args.n.now) c.self.view_is
