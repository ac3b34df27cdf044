use Rattle.std.proofs.Common.{ap, ◌∙◌}
use Rattle.qc_event.specs.History.{refused}
use Rattle.qc_looks.specs.Indexed.{Known}
use Rattle.qc_looks.proofs.indexed.IndexedLooks.refused.Goals as goal

pub returns : goal.returns
returns c = c.refusal.ensures _ c.self.invariant.legal ∙ ap (λ (k : Known). refused k.past c.args.access.now) c.self.view_is
