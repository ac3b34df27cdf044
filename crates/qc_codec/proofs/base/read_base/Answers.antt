use Rattle.std.proofs.Common.{arith}
use Rattle.qc_codec.specs.Bodies as body
use Rattle.qc_codec.specs.Fields.{layout}
use Rattle.qc_codec.proofs.Bodies.{exact_base}
use Rattle.qc_codec.proofs.Whole.{found, bad}
use Rattle.qc_codec.proofs.base.read_base.Goals as goal

pub returns-clause-found : goal.returns-clause-found
returns-clause-found c = found (body.base (layout c.args.copies c.args.format) c.args.records) (exact_base (layout c.args.copies c.args.format) c.args.records) c.args.bytes.now c.all.result (λ i. omega (arith, c.type_inv.bytes i)) c.all.ensures

pub returns-clause-bad : goal.returns-clause-bad
returns-clause-bad c = bad (body.base (layout c.args.copies c.args.format) c.args.records) (exact_base (layout c.args.copies c.args.format) c.args.records) c.args.bytes.now c.all.result c.all.ensures
