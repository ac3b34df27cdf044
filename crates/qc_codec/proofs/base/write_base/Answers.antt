use Rattle.qc_codec.specs.Fields.{current}
use Rattle.qc_codec.proofs.Fits.{base_votes}
use Rattle.std.specs.Prelude.{length}
use Rattle.qc_codec.proofs.base.write_base.Goals as goal

pub put_tuples-requires-clause-same : goal.put_tuples-requires-clause-same
put_tuples-requires-clause-same c = rw c.as_slice.ensures (base_votes (current c.args.copies) (length c.args.base.now.tuples) c.args.base.now c.requires.proper)
