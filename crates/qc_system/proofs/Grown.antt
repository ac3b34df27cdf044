-- A disk goes on from what it was at its mounting.
use Rattle.std.proofs.Common.{◌<◌, ◌≤◌, ℕ, List, arith}
use Rattle.std.specs.Prelude.{◌↔◌}
use Rattle.qc_disk.specs.Disk.{DiskView}
use Rattle.qc_disk.specs.declared.disk.Disk.{Ghosts}
use Rattle.qc_journal.specs.Journal.{disk_of}
use Rattle.qc_journal.specs.declared.journal.Journal.{Journal}
use Rattle.qc_ledger.proofs.Since.{grown_more}
use Rattle.qc_system.specs.Grown.{GrownFrom, LeftAlike}
use Rattle.qc_system.specs.declared.boxed.Boxed.{Boxed}

-- the disk of a journal, which stands in a box
abbrev pub disk_in : {D : Type 0} {g : Ghosts (Boxed D)} → Journal (Boxed D) g → DiskView
disk_in {D} {g} journal = g.view (disk_of journal)

-- over calls after which a crash leaves at earlier moments what it left
pub left_on : (first : DiskView) {D : Type 0} (old new : D) (view : D → DiskView) → ((t : ℕ) (c : List ℕ) → t < (view old).moment → (view new).left_at t c ↔ (view old).left_at t c)
    → first.moment ≤ (view old).moment → LeftAlike first (view old) → LeftAlike first (view new)
left_on first old new view stays later began = λ t c early.
    let (to, from) = stays t c (omega (arith, early, later)) in
    let (on, back) = began t c early in
    (λ left. on (to left), λ left. from (back left))

-- what may be, may be later
pub from_more : (first : DiskView) (before : List (List ℕ)) (May May' : List (List ℕ) → Type 0) (disk : DiskView) → ((more : List (List ℕ)) → May more → May' more) → GrownFrom first before May disk → GrownFrom first before May' disk
from_more first before May May' disk on g = record { began = g.began; grown = grown_more first.moment before May May' disk on g.grown }
