use Rattle.std.proofs.Common.{ap, ◌∙◌}
use Rattle.std.specs.Prelude.{is_none}
use Rattle.qc_event.specs.Standing.{open_child}
use Rattle.qc_looks.specs.Indexed.{Known}
use Rattle.qc_looks.proofs.indexed.IndexedLooks.children_ended.Goals as goal

pub returns : goal.returns
returns c = c.children_ended.ensures _ c.self.invariant.legal ∙ ap (λ (k : Known). is_none (open_child k.past c.args.n.now)) c.self.view_is
