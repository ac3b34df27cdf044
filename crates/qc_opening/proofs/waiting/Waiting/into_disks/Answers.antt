-- The disks are turned round, and the spares go behind them from the last to the first.
use Rattle.std.proofs.Common.{◌≡◌, ◌++◌, List, [], length, reverse, refl, sym, ap, append-nil, ◌∙◌, arith}
use Rattle.std.proofs.lemmas.List.{nil_from_length, with_items_is}
use Rattle.qc_opening.proofs.Mountings.Waits.{wait_length, wait_row}
use Rattle.qc_opening.proofs.waiting.Waiting.into_disks.Goals as goal

pub loop-spare-init : goal.loop-spare-init
loop-spare-init g c =
    let it = c.args.self in
    let many : length c.reverse.new.self ≡ it.disks.len = c.reverse.ensures.len ∙ c.as_mut_slice.ensures.len in
    record {
      row = refl;
      room = omega (arith, ap length (with_items_is it.disks c.reverse.new.self many), many, c.requires.1, it.disks.ok.0, it.as_many, wait_length it.disks.items it.spares.items it.as_many);
    }

pub returns : goal.returns
returns g c =
    let it = c.args.self in
    let many : length c.reverse.new.self ≡ it.disks.len = c.reverse.ensures.len ∙ c.as_mut_slice.ensures.len in
    let turned : c.reverse.new.self ≡ reverse it.disks.items = c.reverse.ensures.after ∙ ap reverse c.as_mut_slice.ensures.value in
    let none : c.loop-spare.spares.items ≡ [] = nil_from_length c.loop-spare.spares.items (omega (arith, c.loop-spare.spares.ok.0, c.in_default.ensures.cases)) in
    sym (append-nil c.loop-spare.disks.items)
    ∙ (ap (λ (l : List g.row.D.Denot). c.loop-spare.disks.items ++ reverse l) (sym none)
    ∙ (c.loop-spare.invariant.row
    ∙ (ap (λ (l : List g.row.D.Denot). l ++ reverse it.spares.items) (with_items_is it.disks c.reverse.new.self many ∙ turned)
    ∙ sym (wait_row it.disks.items it.spares.items it.as_many))))
