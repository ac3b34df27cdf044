use Rattle.std.proofs.Common.{ap, ◌∙◌}
use Rattle.qc_event.specs.History.{start}
use Rattle.qc_looks.specs.Indexed.{Known}
use Rattle.qc_looks.proofs.indexed.IndexedLooks.start.Goals as goal

pub returns : goal.returns
returns c = c.begun.ensures _ c.self.invariant.legal ∙ ap (λ (k : Known). start k.past c.args.n.now) c.self.view_is
