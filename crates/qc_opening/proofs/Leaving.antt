-- The pairs of disks of a store that was mounted, and then not run.
use Rattle.std.proofs.Common.{◌≡◌, ℕ, ◌+◌, List, map, sym, ◌∙◌, subst}
use Rattle.qc_codec.specs.declared.past.Past.{Past}
use Rattle.qc_disk.specs.declared.disk.Disk.{Ghosts}
use Rattle.qc_event.specs.declared.table.Table.{Table}
use Rattle.qc_opening.specs.Disks.{FirstTells, IsPairLeft}
use Rattle.qc_opening.specs.Mounted.{copy_disks, ledger_disks, AreMounted, IsCopy, IsStoreOf}
use Rattle.qc_opening.specs.Numbered.{PairsFrom}
use Rattle.qc_opening.specs.Parts.{pairs_held}
use Rattle.qc_opening.specs.Refusing.{ArePairsLeft, FailedAt, IsBehind}
use Rattle.qc_opening.specs.declared.parts.Parts.{Parts}
use Rattle.qc_opening.proofs.Mountings.Disks.{left_too}
use Rattle.qc_opening.proofs.Mountings.Numbered.{pairs_mapped, pairs_shifted}
use Rattle.qc_pair.specs.Fold.{swapped_in}
use Rattle.qc_pair.specs.declared.fault.PairNo.TheVariants.{Memory}

module _ {D : Type 0} {g : Ghosts D} (table : Table) where
  -- a pair of which neither disk failed
  pair_unrun : (Tells : Past → Type 0) (pair : ℕ) (old new : D × D) → AreMounted g.view table Tells pair old new → IsPairLeft g.view table Tells (FailedAt Memory) (IsBehind Memory) pair old new
  pair_unrun Tells pair old new m = record { own = m.own; spare = m.spare; behind = λ behind. absurd behind }

  module _ (limit : ℕ) (pairs : List (D × D)) (parts : Parts D g) (store : IsStoreOf table limit pairs parts) where
    abbrev Tells : Past → Type 0
    Tells past = past ≡ parts.past

    abbrev Left : ℕ → D × D → D × D → Type 0
    Left = IsPairLeft g.view table Tells (FailedAt Memory) (IsBehind Memory)

    -- the ledger's pair told that past
    first_tells : (past : Past) → Tells past → FirstTells g.view pairs past
    first_tells past is =
        let m = store.ledger_is.mounts in
        subst (λ (l : List (D × D)). FirstTells g.view l past) (sym store.pairs_are) (swapped_in parts.ledger.fold, m.mounts.found, m.opens.have, is ∙ m.mounts.past_is)

    copies : PairsFrom Left 1 store.copy_pairs (map copy_disks parts.copies.items)
    copies = pairs_shifted Left 0 store.copy_pairs (map copy_disks parts.copies.items)
        (pairs_mapped (IsCopy table parts.past parts.epoch limit) (λ n. Left (n + 1)) copy_disks 0 store.copy_pairs parts.copies.items store.copies_are
        (λ n disks pair low is. pair_unrun Tells (n + 1) disks (copy_disks pair) is.left))

    -- each pair is left by a mounting that did not fail
    pub pairs_unrun : ArePairsLeft g.view table (FirstTells g.view pairs) Memory 0 pairs (pairs_held parts)
    pairs_unrun = left_too g.view table Tells (FirstTells g.view pairs) Memory 0 pairs (pairs_held parts) first_tells
        (subst (λ (l : List (D × D)). ArePairsLeft g.view table Tells Memory 0 l (pairs_held parts)) (sym store.pairs_are) (pair_unrun Tells 0 store.ledger_pair (ledger_disks parts.ledger) store.ledger_is.left, copies))
