use Rattle.std.proofs.Common.{ap, ◌∙◌, length}
use Rattle.qc_event.specs.History.{asks}
use Rattle.qc_looks.specs.Indexed.{Known}
use Rattle.qc_looks.proofs.indexed.IndexedLooks.asks.Goals as goal

pub returns : goal.returns
returns c = c.count.ensures _ c.self.inside.history c.self.invariant.asks_are c.names.ensures c.self.invariant.legal ∙ ap (λ (k : Known). length (asks k.past c.args.m.now)) c.self.view_is
