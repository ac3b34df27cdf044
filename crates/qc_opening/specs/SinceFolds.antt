-- What the disks of a store tell since its mounting folded the journals of older formats.
use Rattle.std.specs.Prelude.{ℕ, ◌≡◌, ◌+◌, ◌<◌, List, Option}
use Rattle.qc_codec.specs.declared.past.Past.{Past}
use Rattle.qc_event.specs.declared.table.Table.{Table}
use Rattle.qc_opening.specs.Disks.{TellsPast}
use Rattle.qc_site.specs.Renewal.{TellsNow}

-- The disks at all places told this, and tell that since they were mounted: the ledger's pair what it told, and a copy's what it
-- told, or it was folded behind the past that the ledger's tells.
pub record TellSinceFolds (table : Table) (told now : ℕ → Option (List ℕ)) : Type 0 where
  pub past : Past
  pub tells : TellsPast (told 0) (told (table.copies + 1 + 0)) past
  pub ledger : now 0 ≡ told 0
  pub ledger_spare : now (table.copies + 1 + 0) ≡ told (table.copies + 1 + 0)
  pub copies : (copy : ℕ) → copy < table.copies
      → TellsNow copy table (told (copy + 1)) (told (table.copies + 1 + (copy + 1))) past (now (copy + 1)) (now (table.copies + 1 + (copy + 1)))

-- this holds of what disks tell since then that told so
abbrev pub SinceFolds : Table → (ℕ → Option (List ℕ)) → ((ℕ → Option (List ℕ)) → Type 0) → Type 0
SinceFolds table told Holds = (now : ℕ → Option (List ℕ)) × TellSinceFolds table told now × Holds now
