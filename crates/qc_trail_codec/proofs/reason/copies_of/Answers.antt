use Rattle.std.proofs.Common.{◌+◌, ◌≡◌, true, false, List, Bool, length, take, drop, ap, ◌∙◌}
use Rattle.std.specs.Prelude.{slice_set}
use Rattle.std.proofs.lemmas.List.{length-set}
use Rattle.std.proofs.lemmas.Bool.{eq-eqb, ne_eqb}
use Rattle.qc_trail_codec.proofs.Marks.{one_more, none_behind, not_marked, is_marked, none_behind_set}
use Rattle.qc_trail_codec.proofs.reason.copies_of.Goals as goal
use Rattle.qc_trail_codec.proofs.reason.copies_of.Goals.{then-rest-eq1, else-rest-eq1}

pub loop-copy-preserved : goal.loop-copy-preserved
loop-copy-preserved c =
    let i = c.loop-copy.invariant in
    elim c.if-rest-eq1.branch [
      | then-rest-eq1 w ↦
          let is : c.if-rest-eq1.copies ≡ slice_set c.loop-copy.copies c.loop-copy.copy true = w.copies-is ∙ w.with-copies.ensures in
          record {
            same = one_more c.loop-copy.copies c.loop-copy.copy c.loop-copy.rest _ c.loop-copy-test.true i.long i.none i.same c.if-rest-eq1.copies true (ap (λ (xs : List Bool). take (c.loop-copy.copy + 1) xs) is ∙ is_marked c.loop-copy.copies c.loop-copy.copy c.loop-copy.rest _ c.loop-copy-test.true i.long i.none i.same) (eq-eqb _ 1 w.if-rest-eq1.true);
            none = ap (λ (xs : List Bool). drop (c.loop-copy.copy + 1) xs) is ∙ none_behind_set c.loop-copy.copies c.loop-copy.copy c.loop-copy.rest _ c.loop-copy-test.true i.long i.none i.same;
            long = ap (λ (xs : List Bool). length xs) is ∙ length-set c.loop-copy.copies c.loop-copy.copy true ∙ i.long;
          }
      | else-rest-eq1 w ↦
          record {
            same = one_more c.loop-copy.copies c.loop-copy.copy c.loop-copy.rest _ c.loop-copy-test.true i.long i.none i.same c.if-rest-eq1.copies false (ap (λ (xs : List Bool). take (c.loop-copy.copy + 1) xs) w.copies-is ∙ not_marked c.loop-copy.copies c.loop-copy.copy c.loop-copy.rest _ c.loop-copy-test.true i.long i.none i.same) (ne_eqb _ 1 w.if-rest-eq1.false);
            none = ap (λ (xs : List Bool). drop (c.loop-copy.copy + 1) xs) w.copies-is ∙ none_behind c.loop-copy.copies c.loop-copy.copy c.loop-copy.rest _ c.loop-copy-test.true i.long i.none i.same;
            long = ap (λ (xs : List Bool). length xs) w.copies-is ∙ i.long;
          }
    ]
