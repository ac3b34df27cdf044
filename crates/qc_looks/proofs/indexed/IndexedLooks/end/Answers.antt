use Rattle.std.proofs.Common.{ap, ◌∙◌}
use Rattle.qc_event.specs.History.{end}
use Rattle.qc_looks.specs.Indexed.{Known}
use Rattle.qc_looks.proofs.indexed.IndexedLooks.end.Goals as goal

pub returns : goal.returns
returns c = c.end.ensures _ c.self.invariant.legal ∙ ap (λ (k : Known). end k.past c.args.n.now) c.self.view_is
