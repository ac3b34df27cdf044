-- Turned round twice.
use Rattle.std.proofs.Common.{◌++◌, List, ap, arith, length, ◌∙◌}
use Rattle.std.specs.Prelude.{reverse}
use Rattle.std.proofs.lemmas.List.{length-reverse, reverse-reverse}
use Rattle.qc_system.specs.declared.boxed.Boxed.{Boxed}
use Rattle.qc_opening.specs.Boxes.{unboxed}
use Rattle.qc_opening.proofs.Places.{map_reverse}
use Rattle.qc_opening.proofs.boxing.unbox_all.Goals as goal

pub take_out-requires : goal.take_out-requires
take_out-requires g c = omega (arith, ap length c.turned.ensures, length-reverse c.args.boxed.items, c.requires.room, ap length c.requires.none)

pub returns : goal.returns
returns g c =
    c.take_out.ensures
    ∙ (ap (λ (l : List g.row.D.Denot). l ++ reverse (unboxed c.turned.result.items)) c.requires.none
    ∙ (ap (λ (l : List (Boxed g.row.D.Denot)). reverse (unboxed l)) c.turned.ensures
    ∙ (ap reverse (map_reverse (λ (b : Boxed g.row.D.Denot). b.disk.value) c.args.boxed.items) ∙ reverse-reverse (unboxed c.args.boxed.items))))
