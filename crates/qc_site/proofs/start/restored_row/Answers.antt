-- What the grants so far restore, with the next.
use Rattle.std.proofs.Common.{◌≡◌, ◌∙◌, ◌+◌, ◌∷◌, ◌++◌, [], ap, sym, length, take}
use Rattle.std.proofs.lemmas.List.{take_more}
use Rattle.qc_event.specs.declared.event.Grant.{Grant}
use Rattle.qc_codec.specs.Base.{tuples_of_base}
use Rattle.qc_codec.specs.Restored.{is_kept, restored_row}
use Rattle.qc_desk.specs.Held.{from_row}
use Rattle.qc_desk.proofs.Rows.{row_more, row_none, row_same}
use Rattle.qc_site.proofs.start.restored_row.Goals as goal
use Rattle.qc_site.proofs.start.restored_row.Goals.{then-is_kept, else-is_kept}

pub loop-grant-init : goal.loop-grant-init
loop-grant-init c =
    let firsts = tuples_of_base c.args.table.now c.args.base.now in
    c.in_ok-tuples.ensures
    ∙ sym (row_none (is_kept c.args.tops.now) firsts)
    ∙ ap (λ n. restored_row c.args.tops.now n (from_row firsts) []) c.requires

pub loop-grant-preserved : goal.loop-grant-preserved
loop-grant-preserved c =
    let tops = c.args.tops.now in
    let records = length c.args.table.now.records in
    let start = from_row (tuples_of_base c.args.table.now c.args.base.now) in
    let gs = take c.loop-grant.grant-index c.args.grants.now in
    let g = c.grant-item.result in
    let more : take (c.loop-grant.grant-index + 1) c.args.grants.now ≡ gs ++ g ∷ [] = take_more c.args.grants.now c.loop-grant.grant-index g c.loop-grant-test.true ∙ ap (λ (h : Grant). gs ++ h ∷ []) (sym c.grant-item.is) in
    elim c.if-is_kept.branch [
      | then-is_kept w ↦
          ap (λ v. v.items) w.tuples-is
          ∙ row_more (is_kept tops) records start gs g c.loop-grant.tuples.items w.change_tuple.new.tuples.items (sym c.is_kept.ensures ∙ w.if-is_kept.true) w.change_tuple.ensures.known w.change_tuple.ensures.past c.loop-grant.invariant
          ∙ ap (restored_row tops records start) (sym more)
      | else-is_kept w ↦
          ap (λ v. v.items) w.tuples-is
          ∙ c.loop-grant.invariant
          ∙ sym (row_same (is_kept tops) records start gs g (sym c.is_kept.ensures ∙ w.if-is_kept.false))
          ∙ ap (restored_row tops records start) (sym more)
    ]
