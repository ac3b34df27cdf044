-- The disks are turned round once the spares are taken off.
use Rattle.std.proofs.Common.{◌≡◌, ◌+◌, length, reverse, sym, ap, ◌∙◌, arith}
use Rattle.std.specs.Vec.{with_items}
use Rattle.std.proofs.lemmas.List.{length-append, length-reverse, with_items_is}
use Rattle.qc_opening.proofs.Mountings.Waits.{turned_row, wait_length}
use Rattle.qc_opening.proofs.waiting.Waiting.new.Goals as goal

pub returns-clause-disks : goal.returns-clause-disks
returns-clause-disks g c =
    let disks = c.loop-spares.disks in
    let spares = c.loop-spares.spares in
    let many : length c.reverse.new.self ≡ disks.len = c.reverse.ensures.len ∙ c.as_mut_slice.ensures.len in
    let turned : c.reverse.new.self ≡ reverse disks.items = c.reverse.ensures.after ∙ ap reverse c.as_mut_slice.ensures.value in
    let half : length spares.items ≡ length disks.items = omega (arith, disks.ok.0, spares.ok.0, c.loop-spares.invariant.fewer, c.len.ensures, c.len-in-loop-spares.ensures, c.loop-spares-test.false) in
    turned_row disks.items _ spares.items (with_items_is disks c.reverse.new.self many ∙ turned) half ∙ c.loop-spares.invariant.row

pub returns-clause-all : goal.returns-clause-all
returns-clause-all g c =
    let disks = c.loop-spares.disks in
    let spares = c.loop-spares.spares in
    let many : length c.reverse.new.self ≡ disks.len = c.reverse.ensures.len ∙ c.as_mut_slice.ensures.len in
    let items = with_items_is disks c.reverse.new.self many in
    let half : length spares.items ≡ length disks.items = omega (arith, disks.ok.0, spares.ok.0, c.loop-spares.invariant.fewer, c.len.ensures, c.len-in-loop-spares.ensures, c.loop-spares-test.false) in
    let row : length disks.items + length spares.items ≡ g.pairs + g.pairs =
    sym (length-append disks.items (reverse spares.items) ∙ ap (λ n. length disks.items + n) (length-reverse spares.items)) ∙ (ap length c.loop-spares.invariant.row ∙ c.requires.1.1.0) in
    wait_length (with_items disks c.reverse.new.self).items spares.items (omega (arith, half, disks.ok.0, ap length items, many)) ∙ omega (arith, ap length items, many, disks.ok.0, half, row)
