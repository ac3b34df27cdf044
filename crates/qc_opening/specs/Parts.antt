-- A store that was mounted: over what, and which disks it holds.
use Rattle.std.specs.Prelude.{ℕ, ◌≡◌, List, ◌∷◌, map, Option, slice_index_or}
use Rattle.qc_disk.specs.declared.disk.Disk.{Ghosts}
use Rattle.qc_event.specs.declared.table.Table.{Table}
use Rattle.qc_opening.specs.Mounted.{copy_disks, ledger_disks, IsStoreOf}
use Rattle.qc_opening.specs.declared.parts.Parts.{Parts}
use Rattle.qc_system.specs.Pairs.{own_then_spares}

-- how often the disk of a place had failed, where they had so often
abbrev pub counted_by : List ℕ → ℕ → ℕ
counted_by counts place = slice_index_or counts place 0

-- its pairs of disks, the ledger's first
abbrev pub pairs_held : {D : Type 0} {g : Ghosts D} → Parts D g → List (D × D)
pairs_held parts = ledger_disks parts.ledger ∷ map copy_disks parts.copies.items

-- its disks, each at its place
abbrev pub disks_held : {D : Type 0} {g : Ghosts D} → Parts D g → List D
disks_held parts = own_then_spares (pairs_held parts)

-- It was mounted from disks that told this, and had failed so often.
pub record IsStoreOver {D : Type 0} {g : Ghosts D} (table : Table) (told : List (Option (List ℕ))) (counts : List ℕ) (parts : Parts D g) : Type 0 where
  pub limit : ℕ
  pub pairs : List (D × D)
  pub mounted : IsStoreOf table limit pairs parts
  pub contents : map (λ disk. (g.view disk).content) (own_then_spares pairs) ≡ told
  pub counted : map (λ disk. (g.view disk).faults) (own_then_spares pairs) ≡ counts
