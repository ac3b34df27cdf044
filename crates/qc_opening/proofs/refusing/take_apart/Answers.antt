-- The ledger's pair, and the copies' behind it.
use Rattle.std.proofs.Common.{◌≡◌, ◌∷◌, ◌++◌, [], List, map, ap, ap₂, ◌∙◌}
use Rattle.std.specs.Prelude.{reverse}
use Rattle.qc_opening.specs.Boxes.{unboxed_pairs}
use Rattle.qc_opening.specs.Mounted.{copy_disks, ledger_disks}
use Rattle.qc_opening.specs.Parts.{pairs_held}
use Rattle.qc_opening.proofs.Places.{turned_back}
use Rattle.qc_opening.proofs.Unboxed.{row_unboxed}
use Rattle.qc_system.specs.Pairs.{own_then_spares, pairs_in}
use Rattle.qc_system.specs.declared.boxed.Boxed.{Boxed}
use Rattle.qc_opening.proofs.refusing.take_apart.Goals as goal

pub returns : goal.returns
returns g c =
    let parts = c.args.parts in
    let first = c.into_disks.result in
    let copies = c.turned.result.items in
    let disks : first ≡ ledger_disks parts.ledger = ap₂ (λ (a b : Boxed g.row.D.Denot). (a, b)) c.into_disks.ensures.own c.into_disks.ensures.spare in
    let one : pairs_in c.put.new.returns ≡ unboxed_pairs (ledger_disks parts.ledger ∷ []) =
    c.put.ensures ∙ (ap (λ l. l ++ unboxed_pairs (first ∷ [])) c.requires.none ∙ ap (λ p. unboxed_pairs (p ∷ [])) disks) in
    let all : pairs_in c.put_copies.new.returns ≡ unboxed_pairs (pairs_held parts) =
    c.put_copies.ensures
    ∙ (ap (λ l. l ++ unboxed_pairs (reverse (map copy_disks copies))) one
    ∙ ap (λ (l : List (Boxed g.row.D.Denot × Boxed g.row.D.Denot)). unboxed_pairs (ledger_disks parts.ledger ∷ l)) (turned_back copy_disks parts.copies.items copies c.turned.ensures)) in
    c.into_disks-2.ensures ∙ (ap own_then_spares all ∙ row_unboxed (pairs_held parts))
