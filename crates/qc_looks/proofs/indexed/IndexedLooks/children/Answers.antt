use Rattle.std.proofs.Common.{ap, ◌∙◌, length}
use Rattle.qc_event.specs.History.{children}
use Rattle.qc_looks.specs.Indexed.{Known}
use Rattle.qc_looks.proofs.indexed.IndexedLooks.children.Goals as goal

pub returns : goal.returns
returns c = c.children.ensures _ c.self.invariant.legal ∙ ap (λ (k : Known). length (children k.past c.args.n.now)) c.self.view_is
