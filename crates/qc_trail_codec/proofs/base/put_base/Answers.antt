use Rattle.std.proofs.Common.{◌+◌, ◌<◌, ◌++◌, ◌∷◌, [], List, length, take, sym, ◌∙◌, append_assoc, arith}
use Rattle.std.specs.Prelude.{flat_map, slice_index_or}
use Rattle.std.specs.List.{All}
use Rattle.qc_config.specs.declared.tuple.Tuple.{Tuple}
use Rattle.qc_codec.specs.Fields as field
use Rattle.qc_codec.specs.Fields.{current}
use Rattle.qc_trail_codec.proofs.InARow.{one_more_written, one_more_fits}
use Rattle.qc_trail_codec.proofs.base.put_base.Goals as goal

pub loop-copy-preserved : goal.loop-copy-preserved
loop-copy-preserved c =
    let base = c.args.base.now in
    let row = c.row-in-loop-copy.result.now in
    let form = field.tuple (current c.copies-copies.result) in
    let front = c.copies-copies.result ∷ length (slice_index_or base 0 []) ∷ [] in
    let lt : c.loop-copy.copy < length base = omega (arith, c.loop-copy-test.true, c.copies-copies.ensures) in
    let none : List Tuple = [] in
    record {
      written = one_more_written (flat_map form.spell) (c.args.out.now.items ++ front) base c.loop-copy.copy row none _ _ lt c.row-in-loop-copy.ensures
          (c.loop-copy.invariant.written ∙ sym (append_assoc c.args.out.now.items front (flat_map (flat_map form.spell) (take c.loop-copy.copy base)))) c.in_ok-put_row.ensures.written
          ∙ append_assoc c.args.out.now.items front (flat_map (flat_map form.spell) (take (c.loop-copy.copy + 1) base));
      fits = one_more_fits (λ (r : List Tuple). All form.fits r) base c.loop-copy.copy row none lt c.row-in-loop-copy.ensures c.loop-copy.invariant.fits c.in_ok-put_row.ensures.fits;
    }
