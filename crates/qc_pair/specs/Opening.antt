-- What an opening gives, why it is refused, and what it leaves.
use Rattle.std.specs.Prelude.{ℕ, ◌≡◌, ◌<◌, ◌+◌, ◌⊎◌, Bool, if◌then◌else◌, List, Option, IfSome, IsSome, Result, Ok, Err, Vec}
use Rattle.std.specs.declared.alloc.Global.{Global}
use Rattle.qc_codec.specs.Base.{active, is_swapped}
use Rattle.qc_codec.specs.declared.image.ImageFault.{ImageFault}
use Rattle.qc_codec.specs.declared.image.ImageFault.TheVariants as image
use Rattle.qc_disk.specs.Disk.{CountsOnce, DiskView, HasCause, LeavesOnly}
use Rattle.qc_disk.specs.declared.disk.Disk.{Ghosts}
use Rattle.qc_journal.specs.Device.{LeftOrAlike, LosesNoRecord}
use Rattle.qc_journal.specs.Image.{HasRecords, IsBroken}
use Rattle.qc_journal.specs.Journal.{Keeps, disk_of}
use Rattle.qc_journal.specs.declared.fault.Fault.{Fault}
use Rattle.qc_journal.specs.declared.fault.Fault.TheVariants as fault
use Rattle.qc_pair.specs.Front.{base_form, number_in, IsFrontFault, IsGrammar, MayBegin}
use Rattle.qc_pair.specs.Fold.{active_number, other_in, swapped_in}
use Rattle.qc_pair.specs.Pair.{number_at, number_of, own_of, spare_of, swapped}
use Rattle.qc_pair.specs.declared.fault.PairNo.{PairNo}
use Rattle.qc_pair.specs.declared.fault.PairNo.TheVariants.{Disk, Image, Memory}
use Rattle.qc_pair.specs.declared.fold.Fold.{Fold}
use Rattle.qc_pair.specs.declared.kind.Kind.{Kind}
use Rattle.qc_pair.specs.declared.pair.Pair.{Pair}

-- the record of this index may not stand on a disk
abbrev pub grammar_no : ℕ → ℕ → PairNo
grammar_no disk index = Image (record { disk = disk; fault = image.Grammar index })

-- what a fault of a disk's journal is to the opening of its pair
abbrev pub mount_no : ℕ → Fault → PairNo
mount_no disk fault.Disk = Disk disk
mount_no disk (fault.Broken place) = Image (record { disk = disk; fault = image.Broken place })
mount_no disk (fault.Full place) = Image (record { disk = disk; fault = image.Full place })
mount_no disk fault.Memory = Memory

module _ (kind : Kind) (who : ℕ) where
  -- both have bases of one number
  abbrev pub HaveOneNumber : List (List ℕ) → List (List ℕ) → Type 0
  HaveOneNumber own spare = (number_in kind own ≡ number_in kind spare) × (0 < number_in kind own)

  -- The bodies of both may begin their journals, and tell which are active.
  pub record TellWhich (own spare : List (List ℕ)) : Type 0 where
    pub own_begins : MayBegin kind who own
    pub spare_begins : MayBegin kind (who + 17) spare
    pub differ : HaveOneNumber own spare → ⊥

  -- Of these bodies on the disk and on the spare the one of this index on this disk is the first that may not stand.
  abbrev pub IsFirstMisplaced : List (List ℕ) → List (List ℕ) → ℕ → ℕ → Type 0
  IsFirstMisplaced own spare disk index = ((disk ≡ who) × IsFrontFault kind who own index)
      ⊎ ((disk ≡ who + 17) × MayBegin kind who own × (IsFrontFault kind (who + 17) spare index
      ⊎ ((index ≡ 1) × MayBegin kind (who + 17) spare × HaveOneNumber own spare)))

  -- bodies are refused, or memory was wanting
  abbrev pub IsChoiceNo : List (List ℕ) → List (List ℕ) → PairNo → Type 0
  IsChoiceNo own spare (Disk n) = ⊥
  IsChoiceNo own spare (Image bad) = IsGrammar (IsFirstMisplaced own spare bad.disk) bad.fault
  IsChoiceNo own spare Memory = Unit {0}

  module _ (told spare_told : Option (List ℕ)) where
    -- a disk's image has this fault, and none comes before it
    abbrev pub IsImageNo : ℕ → ImageFault → Type 0
    IsImageNo disk (image.Broken place) = ((disk ≡ who) × IfSome told (IsBroken place))
        ⊎ ((disk ≡ who + 17) × ((own : List (List ℕ)) × IfSome told (HasRecords own)) × IfSome spare_told (IsBroken place))
    IsImageNo disk (image.Grammar index) = (own : List (List ℕ)) × (spare : List (List ℕ)) × IfSome told (HasRecords own) × IfSome spare_told (HasRecords spare)
        × IsFirstMisplaced own spare disk index
    IsImageNo disk _ = ⊥

    -- a pair may be refused: for the first fault of the images that are told, for a disk, or for memory
    abbrev pub IsPairRefusal : PairNo → Type 0
    IsPairRefusal (Disk n) = (n ≡ who) ⊎ (n ≡ who + 17)
    IsPairRefusal (Image bad) = IsImageNo bad.disk bad.fault
    IsPairRefusal Memory = Unit {0}

    -- The disks have bodies which tell that these are active, the spare's or the disk's own.
    pub record HaveActive (is_spare : Bool) (bodies : List (List ℕ)) : Type 0 where
      pub own : List (List ℕ)
      pub spare : List (List ℕ)
      pub has_own : IfSome told (HasRecords own)
      pub has_spare : IfSome spare_told (HasRecords spare)
      pub tell : TellWhich own spare
      pub are_active : bodies ≡ active (base_form kind) own spare
      pub swapped_is : is_spare ≡ is_swapped (base_form kind) own spare

    -- A pair was opened over bodies of which these are active.
    pub record OpensPair {D : Type 0} {g : Ghosts D} (pair : Pair D g) (bodies : List (List ℕ)) : Type 0 where
      pub have : HaveActive (swapped pair) bodies
      pub number_is : number_of pair ≡ number_in kind bodies
      pub keeps_own : IsSome told → Keeps (own_of pair) have.own
      pub keeps_spare : IsSome spare_told → Keeps (spare_of pair) have.spare

    -- what the other disk tells, and what it has
    abbrev pub other_told : Bool → Option (List ℕ)
    other_told is_spare = if is_spare then told else spare_told

    -- A pair that was opened over bodies of which these are active may be folded: the other journal keeps what it had.
    pub record OpensFold {D : Type 0} {g : Ghosts D} (fold : Fold D g) (bodies : List (List ℕ)) : Type 0 where
      pub have : HaveActive (swapped_in fold) bodies
      pub number_is : active_number fold ≡ number_in kind bodies
      pub keeps_other : IsSome (other_told (swapped_in fold)) → Keeps (other_in fold) (if swapped_in fold then have.own else have.spare)

    -- what the active disk tells
    abbrev pub active_told : Bool → Option (List ℕ)
    active_told is_spare = if is_spare then spare_told else told

    -- a pair is refused for what its active bodies are on their disk
    abbrev pub IsActiveNo : (ℕ → List (List ℕ) → ImageFault → Type 0) → PairNo → Type 0
    IsActiveNo HasFault (Disk n) = ⊥
    IsActiveNo HasFault (Image bad) = (is_spare : Bool) × (bodies : List (List ℕ)) × HaveActive is_spare bodies × (bad.disk ≡ number_at is_spare who)
        × (IsSome (active_told is_spare) → HasFault bad.disk bodies bad.fault)
    IsActiveNo HasFault Memory = ⊥

    -- its mounting may be refused: as a pair, or then for its active bodies
    abbrev pub IsMountNo : (ℕ → List (List ℕ) → ImageFault → Type 0) → PairNo → Type 0
    IsMountNo HasFault refusal = IsPairRefusal refusal ⊎ IsActiveNo HasFault refusal

-- What the mounting of a disk leaves of it at each moment, and what it costs.
pub record MountsDisk {D : Type 0} (view : D → DiskView) (Failed : Type 0) (old new : D) : Type 0 where
  pub any_moment : LeavesOnly view old new (LeftOrAlike (view old).may_leave (view old).content)
  pub grows : IsSome (view old).content → LosesNoRecord view old new
  pub cause : HasCause (view old).faults (view new).faults Failed
  pub counts_once : CountsOnce (view old).faults (view new).faults Failed

-- the disk, of a pair that was opened or that was handed back
abbrev pub own_after : {D : Type 0} {g : Ghosts D} → Result (Pair D g × Vec (Vec ℕ Global) Global) (D × D × PairNo) → D
own_after (Ok opened) = disk_of (own_of opened.0)
own_after (Err refused) = refused.0

-- the spare
abbrev pub spare_after : {D : Type 0} {g : Ghosts D} → Result (Pair D g × Vec (Vec ℕ Global) Global) (D × D × PairNo) → D
spare_after (Ok opened) = disk_of (spare_of opened.0)
spare_after (Err refused) = refused.1
