-- What a mounting gives.
use Rattle.std.specs.Prelude.{ℕ, ◌≡◌, List, ◌++◌, Option, IfSome}
use Rattle.qc_disk.specs.declared.disk.Disk.{Ghosts}
use Rattle.qc_event.specs.declared.table.Table.{Table}
use Rattle.qc_codec.specs.Base.{format_in}
use Rattle.qc_codec.specs.declared.past.Past.{Past}
use Rattle.qc_journal.specs.Image.{HasRecords, bodies_of}
use Rattle.qc_journal.specs.declared.journal.Journal.{Journal}
use Rattle.qc_site.specs.Image.{AreGranted, AreMountableAsCopy, to_write}
use Rattle.qc_site.specs.declared.mounted.Mounted.{Mounted}

-- which copy it is, and of how many
abbrev pub copy_of : {D : Type 0} {g : Ghosts D} → Mounted D g → ℕ
copy_of site = site.copy

abbrev pub copies_of : {D : Type 0} {g : Ghosts D} → Mounted D g → ℕ
copies_of site = site.copies

-- the journal
abbrev pub journal_of : {D : Type 0} {g : Ghosts D} → Mounted D g → Journal D g
journal_of site = site.journal

-- the bodies of its records
abbrev pub records_of : {D : Type 0} {g : Ghosts D} → Mounted D g → List (List ℕ)
records_of site = bodies_of site.bodies.items

-- Bodies were found, which are those of a disk of a copy's in order behind a past, in a format. A disk that tells its bytes has
-- them, without a fault. What a mounting writes stands behind them.
pub record MountsCopy (disk : ℕ) (table : Table) (past : Past) (limit format : ℕ) (told : Option (List ℕ)) (records : List (List ℕ)) : Type 0 where
  pub found : List (List ℕ)
  pub format_is : format_in found ≡ format
  pub granted : AreGranted disk table past found
  pub fine : IfSome told (λ bytes. HasRecords found bytes × AreMountableAsCopy disk table past limit found)
  pub all : records ≡ found ++ to_write disk table found
