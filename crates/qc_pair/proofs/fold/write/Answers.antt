-- The number and the epoch are in range.
use Rattle.std.proofs.Common.{List, arith, subst, sym}
use Rattle.std.specs.List.{All}
use Rattle.qc_config.specs.declared.tuple.Tuple.{Tuple}
use Rattle.qc_codec.specs.Fields.{current, tuple}
use Rattle.qc_pair.proofs.Bases.{base_fits}
use Rattle.qc_pair.proofs.fold.write.Goals as goal

pub write_base-requires-clause-proper : goal.write_base-requires-clause-proper
write_base-requires-clause-proper c =
    base_fits c.args.copies (record { number = c.args.number; epoch = c.args.epoch; tuples = c.new.result })
    c.requires.counted c.requires.last (omega arith)
    (subst (λ (tuples : List Tuple). All (tuple (current c.args.copies)).fits tuples) (sym c.new.ensures) c.requires.fit)
