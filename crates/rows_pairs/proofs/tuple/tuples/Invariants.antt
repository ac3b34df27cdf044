use Rattle.std.proofs.Common.{All}
use Rattle.qc_codec.specs.Fields as field
use Rattle.qc_codec.specs.Fields.{current}
use Rattle.rows_pairs.proofs.tuple.tuples.Given as goal

-- each tuple so far may stand in a base
abbrev pub invariant-loop-word : goal.invariant-loop-word
invariant-loop-word l = All (field.tuple (current l.copies)).fits l.tuples.items
