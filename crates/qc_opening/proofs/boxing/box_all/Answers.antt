-- Those in their places, turned round, are the disks in their order.
use Rattle.std.proofs.Common.{◌++◌, List, ap, sym, arith, ◌∙◌}
use Rattle.std.specs.Prelude.{reverse}
use Rattle.qc_system.specs.declared.boxed.Boxed.{Boxed}
use Rattle.qc_opening.specs.Boxes.{unboxed}
use Rattle.std.proofs.lemmas.List.{nil_from_length}
use Rattle.qc_opening.proofs.Places.{map_reverse}
use Rattle.qc_opening.proofs.boxing.box_all.Goals as goal

pub returns-clause-boxed : goal.returns-clause-boxed
returns-clause-boxed g c =
    let kept = c.loop-last.invariant in
    let none = nil_from_length c.loop-last.disks.items (omega (arith, c.in_default-pop.ensures.cases)) in
    ap unboxed c.turned.ensures
    ∙ (map_reverse (λ (b : Boxed g.row.D.Denot). b.disk.value) c.loop-last.boxed.items
    ∙ (sym (ap (λ (l : List g.row.D.Denot). l ++ reverse (unboxed c.loop-last.boxed.items)) none) ∙ kept.items))
