use Rattle.std.proofs.Common.{[], ◌∷◌, refl, sym, ap, ◌∙◌}
use Rattle.rows_serve.proofs.run.over_desk.Goals as goal

pub run_named-disks-requires-clause-over : goal.run_named-disks-requires-clause-over
run_named-disks-requires-clause-over g c = record {
  same_table = refl;
  tuples = c.start.result.now;
  one_copy = c.in_ok-blank.ensures.0 ∙ c.in_ok-base.ensures ∙ ap (λ row. row ∷ []) (c.start-2.ensures ∙ sym c.start.ensures);
  is_row = c.is_ours.ensures c.if-not-is_ours.false;
}
