use Rattle.std.proofs.Common.{ap, ◌∙◌}
use Rattle.qc_history.specs.Spots as spots
use Rattle.qc_history.proofs.Spots.{node_changed}
use Rattle.qc_history.proofs.nodes.set_end.Goals as goal

pub returns : goal.returns
returns c = node_changed c.args.list.now.items c.args.at c.close.new.self c.index_mut.result.now (spots.with_end c.args.outcome c.args.place) c.requires (c.close.ensures ∙ ap (λ n. spots.with_end c.args.outcome c.args.place (spots.spot n)) c.index_mut.ensures.value)
