use Rattle.std.proofs.Common.{◌-◌, ◌+◌, List, Option, Some, take, ap, ◌∙◌, arith}
use Rattle.std.proofs.lemmas.List.{take_more_set, length-set, take_all}
use Rattle.qc_event.specs.declared.event.Why.{Why}
use Rattle.qc_codec.specs.Form.{times_taken}
use Rattle.qc_codec.specs.Lists.{continued}
use Rattle.qc_trail_codec.specs.Reasons as reasons
use Rattle.qc_codec.proofs.Loops.{goes_on, is_done}
use Rattle.qc_trail_codec.proofs.reason.missing.Goals as goal

pub loop-copy-preserved : goal.loop-copy-preserved
loop-copy-preserved c = record {
  same = ap (λ (xs : List (Option Why)). continued xs (times_taken (16 - (c.loop-copy.copy + 1)) reasons.reason c.reason.new.cursor.rest.now)) (take_more_set c.loop-copy.missing c.loop-copy.copy c.in_ok-missing.field-0 (omega (arith, c.loop-copy.invariant.long, c.loop-copy-test.true)))
      ∙ goes_on reasons.reason (take c.loop-copy.copy c.loop-copy.missing) 16 c.loop-copy.copy c.loop-copy.cursor.rest.now c.reason.new.cursor.rest.now c.in_ok-missing.field-0 _ c.loop-copy-test.true c.in_ok-missing.ensures c.loop-copy.invariant.same;
  long = length-set c.loop-copy.missing c.loop-copy.copy c.in_ok-missing.field-0 ∙ c.loop-copy.invariant.long;
}

pub returns : goal.returns
returns c =
    is_done reasons.reason (take c.loop-copy.copy c.loop-copy.missing) 16 c.loop-copy.copy c.loop-copy.cursor.rest.now _ c.loop-copy-test.false c.loop-copy.invariant.same
    ∙ ap (λ (xs : List (Option Why)). Some (xs, c.loop-copy.cursor.rest.now)) (take_all c.loop-copy.copy c.loop-copy.missing (omega (arith, c.loop-copy.invariant.long, c.loop-copy-test.false)))
