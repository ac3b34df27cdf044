use Rattle.std.proofs.Common.{◌+◌, ◌-◌, ◌∷◌, [], List, map, ap, ◌∙◌, arith}
use Rattle.std.specs.Prelude.{length}
use Rattle.std.proofs.lemmas.List.{map-append, length-append}
use Rattle.std.proofs.lemmas.Result.{err_from_is_err_and}
use Rattle.qc_config.specs.declared.tuple.Tuple.{Tuple}
use Rattle.qc_codec.specs.Form.{times, times_taken}
use Rattle.qc_codec.specs.Fields as field
use Rattle.qc_codec.specs.Fields.{layout}
use Rattle.qc_codec.specs.Lists.{continued}
use Rattle.qc_codec.proofs.Loops.{goes_on, refused}
use Rattle.qc_trail_codec.proofs.base.rows.Goals as goal

pub returns-in_err-row-clause-taken : goal.returns-in_err-row-clause-taken
returns-in_err-row-clause-taken c =
    let p = err_from_is_err_and c.from_residual.result c.from_residual.ensures.1 in
    rw (p.1, p.2)
    (refused (times c.args.records (field.tuple (layout c.args.copies c.args.format))) (map (λ r. r.items) c.loop.rows.items) c.args.copies c.loop.counter c.loop.cursor.rest.now _ c.in_err-row.field-0.0 c.loop-test.true c.in_err-row.ensures.none c.loop.invariant.same)

pub loop-preserved : goal.loop-preserved
loop-preserved c = record {
  same = ap (λ (xs : List (List Tuple)). continued xs (times_taken (c.args.copies - (c.loop.counter + 1)) (times c.args.records (field.tuple (layout c.args.copies c.args.format))) c.row.new.cursor.rest.now))
      (ap (λ rs. map (λ r. r.items) rs) c.in_ok-push.ensures.items ∙ map-append (λ r. r.items) c.loop.rows.items (c.in_ok-row.row ∷ []))
      ∙ goes_on (times c.args.records (field.tuple (layout c.args.copies c.args.format))) (map (λ r. r.items) c.loop.rows.items) c.args.copies c.loop.counter c.loop.cursor.rest.now c.row.new.cursor.rest.now c.in_ok-row.row.items _ c.loop-test.true c.in_ok-row.ensures.some c.loop.invariant.same;
  many = ap (λ rs. length rs) c.in_ok-push.ensures.items ∙ length-append c.loop.rows.items (c.in_ok-row.row ∷ []) ∙ omega (arith, c.loop.invariant.many);
}
