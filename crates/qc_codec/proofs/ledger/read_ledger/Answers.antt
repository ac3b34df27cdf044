use Rattle.std.proofs.Common.{arith}
use Rattle.qc_codec.specs.Bodies as body
use Rattle.qc_codec.proofs.Bodies.{exact_ledger}
use Rattle.qc_codec.proofs.Whole.{found, bad}
use Rattle.qc_codec.proofs.ledger.read_ledger.Goals as goal

pub returns-clause-found : goal.returns-clause-found
returns-clause-found c = found body.ledger exact_ledger c.args.bytes.now c.all.result (λ i. omega (arith, c.type_inv.bytes i)) c.all.ensures

pub returns-clause-bad : goal.returns-clause-bad
returns-clause-bad c = bad body.ledger exact_ledger c.args.bytes.now c.all.result c.all.ensures
