use Rattle.std.proofs.Common.{refl, arith}
use Rattle.std.specs.Prelude.{None}
use Rattle.std.proofs.lemmas.List.{ext_get_or}
use Rattle.qc_scan.proofs.same.same_reasons.Goals as goal

pub returns : goal.returns
returns c =
    (λ _. ext_get_or None c.args.a.now c.args.b.now (omega arith) (λ j lt. c.loop-c.invariant j (omega arith)), λ _. refl)
