-- What the mounting of a copy's pair makes of active bodies in an older format: it folds them into the other disk.
use Rattle.std.specs.Prelude.{ℕ, ◌≡◌, ◌≢◌, ◌+◌, ◌⊎◌, Bool, not, if◌then◌else◌, List, [], ◌∷◌, length, Option, IfSome, IsSome}
use Rattle.qc_codec.specs.Base.{base_in, copy_base, current_copy_base, tuples_of_base}
use Rattle.qc_codec.specs.Bodies as body
use Rattle.qc_codec.specs.Copy.{granted_in}
use Rattle.qc_codec.specs.Fields.{current_format}
use Rattle.qc_codec.specs.Gives.{Spells}
use Rattle.qc_codec.specs.Restored.{restored_row}
use Rattle.qc_codec.specs.declared.image.ImageFault.{ImageFault}
use Rattle.qc_codec.specs.declared.image.ImageFault.TheVariants.{Full}
use Rattle.qc_codec.specs.declared.past.Logged.{Logged}
use Rattle.qc_codec.specs.declared.past.Past.{Past}
use Rattle.qc_codec.specs.declared.record.BaseRecord.{BaseRecord}
use Rattle.qc_codec.specs.declared.record.Made.{Made}
use Rattle.qc_config.specs.declared.tuple.Tuple.{Tuple}
use Rattle.qc_desk.specs.Held.{from_row}
use Rattle.qc_disk.specs.Disk.{CountsOnce, DiskView, HasCause, LeavesOnly, Steps}
use Rattle.qc_event.specs.declared.table.Table.{Table}
use Rattle.qc_journal.specs.Device.{LosesNoRecord}
use Rattle.qc_journal.specs.Image.{HasRecords}
use Rattle.qc_ledger.specs.Pairs.{IsHalfLeft}
use Rattle.qc_pair.specs.Folding.{HasNoRoom, IsFolding}
use Rattle.qc_pair.specs.Front.{number_in}
use Rattle.qc_pair.specs.Opening.{active_told, HaveActive}
use Rattle.qc_pair.specs.Pair.{number_at}
use Rattle.qc_pair.specs.declared.kind.Kind.TheVariants as kind
use Rattle.qc_site.specs.Image.{made_body, to_write, AreMountableAsCopy}

-- WHAT BODIES BECOME

-- the first of these bodies tells that they are of an older format than the current one
abbrev pub AreOlder : List (List ℕ) → Type 0
AreOlder [] = ⊥
AreOlder (first ∷ bodies) = (made : Made) × Spells body.made first made × (made.format ≢ current_format)

-- the tuples that a copy's bodies restore, by tops that were logged: those of its base, or the table's first ones, and then its
-- grants
abbrev pub restored_in : List Logged → Table → List (List ℕ) → List Tuple
restored_in tops table bodies = restored_row tops (length table.records) (from_row (tuples_of_base table (base_in copy_base bodies))) (granted_in table bodies)

module _ (table : Table) (past : Past) (found : List (List ℕ)) where
  -- the base to which bodies are folded behind a ledger's past: of the next number and the last epoch, with what they restore
  abbrev pub renewed_base : BaseRecord
  renewed_base = record { number = number_in kind.Copy found + 1; epoch = past.epoch; tuples = restored_in past.tops table found }

  abbrev pub renewed_body : List ℕ
  renewed_body = (current_copy_base table).spell renewed_base

  -- what stands then on the disk of a number
  abbrev pub renewed : ℕ → List (List ℕ)
  renewed disk = made_body disk table ∷ renewed_body ∷ []

-- THE PAIR

module _ (copy : ℕ) (table : Table) (told spare_told : Option (List ℕ)) where
  -- Of a copy's pair that told this the spare, or the disk itself, is active, and its bodies are of an older format.
  pub record IsOlderPair (is_spare : Bool) (found : List (List ℕ)) : Type 0 where
    pub have : HaveActive kind.Copy (copy + 1) told spare_told is_spare found
    pub older : AreOlder found

  -- what stood on its other disk
  abbrev pub stood_on_other : (is_spare : Bool) (found : List (List ℕ)) → IsOlderPair is_spare found → List (List ℕ)
  stood_on_other is_spare found pair = if is_spare then pair.have.own else pair.have.spare

  -- An image is of the other disk amid the fold, behind a past of which this holds.
  pub record IsRenewing (Tells : Past → Type 0) (is_spare : Bool) (image : List ℕ) : Type 0 where
    pub found : List (List ℕ)
    pub pair : IsOlderPair is_spare found
    pub past : Past
    pub tells : Tells past
    pub fits : (current_copy_base table).fits (renewed_base table past found)
    pub folding : IsFolding (stood_on_other is_spare found pair) (made_body (number_at (not is_spare) (copy + 1)) table) (renewed_body table past found) image

  -- What the mounting of the pair, behind a past of which this holds, leaves of one of both disks at each moment, and what it
  -- costs. No record is lost but of a disk into which an older journal is folded.
  pub record MountsCopyHalf (Tells : Past → Type 0) (is_spare : Bool) {D : Type 0} (view : D → DiskView) (Failed : Type 0) (old new : D) : Type 0 where
    pub any_moment : IsSome (view old).content
        → LeavesOnly view old new (λ image. IsHalfLeft kind.Copy (copy + 1) told spare_told (λ number. to_write number table) is_spare (view old) image ⊎ IsRenewing Tells (not is_spare) image)
    pub grows : IsSome (view old).content → LosesNoRecord view old new ⊎ ((found : List (List ℕ)) × IsOlderPair (not is_spare) found)
    pub cause : HasCause (view old).faults (view new).faults Failed
    pub counts_once : CountsOnce (view old).faults (view new).faults Failed

  -- The pair was folded behind a past, and tells this since then: the disk that was active what it told, and the other one what
  -- the bodies became.
  pub record WasRenewed (past : Past) (now spare_now : Option (List ℕ)) : Type 0 where
    pub is_spare : Bool
    pub found : List (List ℕ)
    pub pair : IsOlderPair is_spare found
    pub fits : (current_copy_base table).fits (renewed_base table past found)
    pub same : (if is_spare then spare_now else now) ≡ (if is_spare then spare_told else told)
    pub folded : Steps (λ before after. HasRecords (renewed table past found (number_at (not is_spare) (copy + 1))) after) (if is_spare then told else spare_told) (if is_spare then now else spare_now)

  -- The pair tells this since its mounting began to write: what it did before, or it was folded.
  abbrev pub TellsNow : Past → Option (List ℕ) → Option (List ℕ) → Type 0
  TellsNow past now spare_now = ((now ≡ told) × (spare_now ≡ spare_told)) ⊎ WasRenewed past now spare_now

-- REFUSALS

module _ (table : Table) (past : Past) (limit : ℕ) where
  -- bodies of an older format are not folded into the disk of a number for want of room at a place
  abbrev pub HasNoRoomToRenew : List (List ℕ) → ℕ → ℕ → Type 0
  HasNoRoomToRenew found disk place = AreOlder found × HasNoRoom (number_in kind.Copy found) limit (made_body disk table) (renewed_body table past found) place

  -- that is the fault of an image
  abbrev pub IsRenewalFault : ℕ → List (List ℕ) → ImageFault → Type 0
  IsRenewalFault disk found (Full place) = HasNoRoomToRenew found disk place
  IsRenewalFault disk found _ = ⊥

  -- Active bodies, the spare's or the disk's own, have no fault, and fit the other disk of a copy's pair where they are folded.
  pub record AreMountableInPair (copy : ℕ) (is_spare : Bool) (found : List (List ℕ)) : Type 0 where
    pub mountable : AreMountableAsCopy (number_at is_spare (copy + 1)) table past limit found
    pub room : (place : ℕ) → HasNoRoomToRenew found (number_at (not is_spare) (copy + 1)) place → ⊥

  -- Of a copy's pair that told this the spare, or the disk itself, was active. Where that told its bytes, they have no fault, and fit
  -- the other disk.
  pub record WasMountable (copy : ℕ) (told spare_told : Option (List ℕ)) : Type 0 where
    pub is_spare : Bool
    pub found : List (List ℕ)
    pub have : HaveActive kind.Copy (copy + 1) told spare_told is_spare found
    pub fine : IfSome (active_told kind.Copy (copy + 1) told spare_told is_spare) (λ bytes. AreMountableInPair copy is_spare found)
