-- What the fold of a mounted copy into the other journal of its pair gives, and what it leaves of both disks.
use Rattle.std.specs.Prelude.{ℕ, ◌≡◌, ◌+◌, not, if◌then◌else◌, List, Result}
use Rattle.qc_codec.specs.Base.{current_copy_base}
use Rattle.qc_codec.specs.declared.image.ImageFault.{ImageFault}
use Rattle.qc_codec.specs.declared.image.ImageFault.TheVariants.{Full}
use Rattle.qc_codec.specs.declared.past.Past.{Past}
use Rattle.qc_disk.specs.declared.disk.Disk.{Ghosts}
use Rattle.qc_event.specs.declared.table.Table.{Table}
use Rattle.qc_journal.specs.Journal.{limit_of, IsUp, Keeps}
use Rattle.qc_pair.specs.Fold.{active_number, copies_in, made_in, other_in, swapped_in, IsExchanged}
use Rattle.qc_pair.specs.Folding.{HasNoRoom}
use Rattle.qc_pair.specs.Front.{number_in}
use Rattle.qc_pair.specs.Pair.{number_at}
use Rattle.qc_pair.specs.declared.fault.PairNo.{PairNo}
use Rattle.qc_pair.specs.declared.fault.PairNo.TheVariants.{Disk, Image, Memory}
use Rattle.qc_pair.specs.declared.fold.Fold.{Fold}
use Rattle.qc_pair.specs.declared.kind.Kind.TheVariants as kind
use Rattle.qc_site.specs.Image.{made_body, AreGranted}
use Rattle.qc_site.specs.Mounted.{copies_of, copy_of, journal_of, records_of}
use Rattle.qc_site.specs.Pairs.{own_after, spare_after}
use Rattle.qc_site.specs.Renewal.{renewed, renewed_base, renewed_body, restored_in}
use Rattle.qc_site.specs.Start.{start_of}
use Rattle.qc_site.specs.declared.mounted.Mounted.{Mounted}

module _ {D : Type 0} {g : Ghosts D} (table : Table) (past : Past) (mounted : Mounted D g) (fold : Fold D g) where
  -- the numbers of both disks, the active one first
  abbrev pub own_number : ℕ
  own_number = number_at (swapped_in fold) (copy_of mounted + 1)

  abbrev pub other_number : ℕ
  other_number = number_at (not (swapped_in fold)) (copy_of mounted + 1)

  -- A copy was mounted from bodies in order behind a past, whose journal may be folded into the other one.
  pub record MayRenew : Type 0 where
    pub copies : copies_of mounted ≡ table.copies
    pub granted : AreGranted own_number table past (records_of mounted)
    pub start : start_of mounted ≡ restored_in past.tops table (records_of mounted)
    pub up : IsUp (other_in fold)
    pub number : active_number fold ≡ number_in kind.Copy (records_of mounted)
    pub made : made_in fold ≡ made_body other_number table
    pub copies_are : copies_in fold ≡ table.copies

  -- there is no room at a place for what its bodies become
  abbrev pub IsFullAt : ℕ → Type 0
  IsFullAt place = HasNoRoom (number_in kind.Copy (records_of mounted)) (limit_of (other_in fold)) (made_body other_number table) (renewed_body table past (records_of mounted)) place

  -- It was folded, and is mounted over what its bodies became: the journal that was active is the other one.
  pub record Renews (new : Mounted D g) (new_fold : Fold D g) : Type 0 where
    pub same_copy : copy_of new ≡ copy_of mounted
    pub same_copies : copies_of new ≡ copies_of mounted
    pub same_start : start_of new ≡ start_of mounted
    pub up : IsUp (journal_of new)
    pub limit_is : limit_of (journal_of new) ≡ limit_of (other_in fold)
    pub records : records_of new ≡ renewed table past (records_of mounted) other_number
    pub keeps : (bodies : List (List ℕ)) → Keeps (other_in fold) bodies → Keeps (journal_of new) (records_of new)
    pub exchanged : IsExchanged fold (journal_of mounted) (made_body own_number table) new_fold
    pub fits : (current_copy_base table).fits (renewed_base table past (records_of mounted))
    pub room : (place : ℕ) → IsFullAt place → ⊥

  -- that is a fault of the disk
  abbrev pub IsFullFault : ImageFault → Type 0
  IsFullFault (Full place) = IsFullAt place
  IsFullFault _ = ⊥

  -- it may be refused for this
  abbrev pub IsNotRenewed : PairNo → Type 0
  IsNotRenewed (Disk n) = n ≡ other_number
  IsNotRenewed (Image bad) = (bad.disk ≡ other_number) × IsFullFault bad.fault
  IsNotRenewed Memory = Unit {0}

-- the disk that was active, and the one that was folded into, of a pair that was renewed or that was handed back
abbrev pub active_after : {D : Type 0} {g : Ghosts D} → Fold D g → Result (Mounted D g × Fold D g) (D × D × PairNo) → D
active_after fold result = if swapped_in fold then spare_after result else own_after result

abbrev pub folded_after : {D : Type 0} {g : Ghosts D} → Fold D g → Result (Mounted D g × Fold D g) (D × D × PairNo) → D
folded_after fold result = if swapped_in fold then own_after result else spare_after result
