use Rattle.std.proofs.Common.{◌+◌, ◌-◌, ◌∷◌, [], ap, ◌∙◌, arith}
use Rattle.std.specs.Prelude.{length}
use Rattle.std.proofs.lemmas.List.{length-append}
use Rattle.qc_event.specs.History.{Name}
use Rattle.qc_codec.specs.Form.{times_taken}
use Rattle.qc_codec.specs.Lists.{continued}
use Rattle.qc_codec.specs.Fields as field
use Rattle.qc_codec.proofs.Loops.{goes_on}
use Rattle.qc_codec.proofs.cursor.Cursor.steps.Goals as goal

pub loop-preserved : goal.loop-preserved
loop-preserved c =
    record {
      same = ap (λ (n : Name). continued n (times_taken (c.args.more - (c.loop.counter + 1)) field.some_number c.some_number.new.self.rest.now)) c.child-name.ensures
          ∙ goes_on field.some_number c.loop.name c.args.more c.loop.counter c.loop.self.rest.now c.some_number.new.self.rest.now c.in_ok-number.number
          (continued c.args.first.now (times_taken c.args.more field.some_number c.args.self.now.rest.now)) c.loop-test.true c.in_ok-number.ensures.taken c.loop.invariant.same;
      long = ap (λ (n : Name). length n) c.child-name.ensures ∙ omega (arith, length-append c.loop.name (c.in_ok-number.number ∷ []), c.loop.invariant.long);
    }
