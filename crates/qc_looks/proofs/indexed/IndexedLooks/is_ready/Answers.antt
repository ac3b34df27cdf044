use Rattle.std.proofs.Common.{ap, ◌∙◌}
use Rattle.qc_event.specs.History.{is_ready}
use Rattle.qc_looks.specs.Indexed.{Known}
use Rattle.qc_looks.proofs.indexed.IndexedLooks.is_ready.Goals as goal

pub returns : goal.returns
returns c = c.is_ready.ensures _ c.self.invariant.legal ∙ ap (λ (k : Known). is_ready k.past c.args.n.now) c.self.view_is
