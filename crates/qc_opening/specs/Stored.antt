-- What a session left of a store, and what its disks have to do with its history.
use Rattle.std.specs.Prelude.{ℕ, zero, suc, true, ◌≡◌, ◌+◌, ◌<◌, ◌≤◌, ◌⊎◌, ◌^◌, Bool, List, [], length, reverse, Option, Some, IsSome, is_some, OnOk, IsOk, IsErrOf, Result, Ok, Err, slice_get}
use Rattle.qc_config.specs.declared.tuple.Tuple.{Tuple}
use Rattle.qc_disk.specs.Disk.{DiskView, Rose}
use Rattle.qc_event.specs.declared.short.Short.TheVariants.{Room}
use Rattle.qc_event.specs.declared.table.Table.{Table}
use Rattle.qc_event.specs.Base.{Setting}
use Rattle.qc_event.specs.History.{Past, limit}
use Rattle.qc_event.specs.Legal.{Legal}
use Rattle.qc_event.specs.Listed.{listed}
use Rattle.qc_event.specs.Seats.{copy_seat, ledger_seat}
use Rattle.qc_event.specs.Standing.{HasEnded}
use Rattle.qc_event.specs.Tables.{setting_of}
use Rattle.qc_interp.specs.FollowsScript.{BeginsScript, FollowsScript}
use Rattle.qc_journal.specs.Image.{HasRecords}
use Rattle.qc_ledger.specs.Since.{AreTopsBy}
use Rattle.qc_opening.specs.Disks.{all_places}
use Rattle.qc_opening.specs.Numbered.{PairsFrom}
use Rattle.qc_opening.specs.Pairs.{made_other, of_active, of_other, AreFoldedInPairs, AreNumbers, AreOthers, MountedInPairs}
use Rattle.qc_opening.specs.Refusing.{disks_in}
use Rattle.qc_opening.specs.declared.mount_no.MountNo.{MountNo}
use Rattle.qc_desk.specs.Entries.{entries_of}
use Rattle.qc_script.specs.Plan.{ScriptPlan}
use Rattle.qc_site.specs.Since.{AreGrantsBy}
use Rattle.qc_pair.specs.Folding.{HasNoRoom, next_base}
use Rattle.qc_system.specs.Closing.{AllKeep}
use Rattle.qc_system.specs.Folds.{held_at}
use Rattle.qc_system.specs.Grown.{FoldedFrom, GrownFrom}
use Rattle.qc_system.specs.Kept.{CopyHadNoRoom, HadNoRoom, NoneStrange, Pays, downs}
use Rattle.qc_opening.specs.declared.stored.Stored.{Stored}

-- the history that is left, the newest entry first
abbrev pub past_of : {D : Type 0} → Stored D → Past
past_of stored = reverse stored.ended.trail

-- the disks that are left
abbrev pub disks_of : {D : Type 0} → Stored D → List D
disks_of stored = stored.ended.disks.items

-- how many disks are handed back, whatever the answer
abbrev pub returned : {D : Type 0} → Result (Stored D) (MountNo D) → ℕ
returned (Ok stored) = length (disks_of stored)
returned (Err refused) = length (disks_in refused)

-- each disk of a store of so many copies tells its bytes, by their places
abbrev pub AllTell : ℕ → (ℕ → Option (List ℕ)) → Type 0
AllTell copies told = (place : ℕ) → place < all_places copies → IsSome (told place)

-- bodies are those of a run, up to some time: on the ledger's active disk of tops, on a copy's of its grants
abbrev pub AreOfRun : Setting → ℕ → Past → List (List ℕ) → Type 0
AreOfRun setting zero past = AreTopsBy (listed past) past
AreOfRun setting (suc copy) past = AreGrantsBy setting copy past

-- the body of the base to which a pair is folded behind one of these numbers, at the end of a history over these tuples
abbrev pub base_of_fold : Table → (ℕ → ℕ) → ℕ → List (List Tuple) → ℕ → Past → List ℕ
base_of_fold table numbers epoch start pair past = next_base table.copies (numbers pair) epoch (held_at (setting_of table start) pair past)

-- by which spares are active, the place of a pair's active disk, and of the other one
abbrev pub active_place : Table → (ℕ → Bool) → ℕ → ℕ
active_place table swapped pair = of_active table swapped (λ place. place) pair

abbrev pub other_place : Table → (ℕ → Bool) → ℕ → ℕ
other_place table swapped pair = of_other table swapped (λ place. place) pair

-- A store was mounted over disks that told this, for an epoch, with journals up to a limit, and its copies started so. Where the
-- ledger's active disk told its bytes, the record of each top that it was unable to log for want of room would have passed the
-- limit, behind those of the mounting and one for each top committed until then. So would that of each request that a copy whose
-- active disk told its bytes was unable to serve for want of room, behind those of the mounting and one for each grant until then: at
-- a time when it had made just these, it might have granted the request so. No such copy was strange.
pub record UnablesHadCause (table : Table) (most : ℕ) (told : ℕ → Option (List ℕ)) (epoch : ℕ) (start : List (List Tuple)) (past : Past) : Type 0 where
  pub records : ℕ → List (List ℕ)
  pub mounted : MountedInPairs table told records epoch start
  pub tops : is_some (of_active table mounted.swapped told 0) ≡ true → HadNoRoom (listed past) (records 0) most (entries_of ledger_seat past)
  pub full : (copy : ℕ) → copy < length start → is_some (of_active table mounted.swapped told (copy + 1)) ≡ true
      → ∥ CopyHadNoRoom (setting_of table start) copy (records (copy + 1)) most past (entries_of (copy_seat copy) past) ∥₁
  pub plain : (copy : ℕ) → copy < length start → is_some (of_active table mounted.swapped told (copy + 1)) ≡ true → NoneStrange (entries_of (copy_seat copy) past)

module _ {D : Type 0} (view : D → DiskView) where
  -- images are of disks, one of each in their order: each is what a crash may leave
  abbrev pub AreImages : List D → List (List ℕ) → Type 0
  AreImages disks images = PairsFrom (λ place disk image. (view disk).may_leave image) 0 disks images

  -- A store was mounted over disks that told this, and had counted so many faults. The active disk of each pair counts since at least
  -- as many as the ledger, or the copy, was unable for a failure of it, up to the end of the count's range. The seat of pair `n` is
  -- `n + 1`.
  pub record HavePaid (table : Table) (told : ℕ → Option (List ℕ)) (counts : ℕ → ℕ) (epoch : ℕ) (start : List (List Tuple)) (disks : List D) (past : Past) : Type 0 where
    pub records : ℕ → List (List ℕ)
    pub mounted : MountedInPairs table told records epoch start
    pub paid : (pair : ℕ) (disk : D) → pair ≤ table.copies → slice_get disks (active_place table mounted.swapped pair) ≡ Some disk
        → Pays (of_active table mounted.swapped counts pair) (downs (entries_of (pair + 1) past)) (view disk).faults

  -- A disk as it was when its mounting had ended: where it had told its bytes it told them still, and a crash left these records of it.
  pub record WasMounted (disk : D) (records : List (List ℕ)) (told : Option (List ℕ)) : Type 0 where
    pub tells : is_some told ≡ true → IsSome (view disk).content
    pub had : is_some told ≡ true → (image : List ℕ) → (view disk).may_leave image → HasRecords records image

  -- A disk has grown since its mounting: the disk as it was then told its bytes, and a crash left these records of it
  -- and no others; at each moment before its own a crash left of the disk what it left of that one; at each since,
  -- these and behind them some of which this is so; and no record was lost again.
  pub record HasGrown (before : List (List ℕ)) (May : List (List ℕ) → Type 0) (disk : D) : Type 0 where
    pub first : D
    pub tells : IsSome (view first).content
    pub had : (image : List ℕ) → (view first).may_leave image → HasRecords before image
    pub grown : GrownFrom (view first) before May (view disk)

  -- A disk was folded into since its mounting: the disk as it was then told its bytes, and a crash left these records
  -- of it and no others; at each moment before its own a crash left of the disk what it left of that one; at each
  -- since, these records, or none, or the first of two bodies, or both.
  pub record WasFoldedInto (before : List (List ℕ)) (made base : List ℕ) (disk : D) : Type 0 where
    pub first : D
    pub tells : IsSome (view first).content
    pub had : (image : List ℕ) → (view first).may_leave image → HasRecords before image
    pub folds : FoldedFrom (view first) before made base (view disk)

  -- A store was mounted over disks that told this, for an epoch, and its copies started so. Each active disk that told
  -- its bytes has grown since by records of the run. Each other one has by none; or it was folded into, once each top
  -- had its end, from the next number on: how it is made, and a base of the epoch with what the copy holds.
  pub record HaveGrown (table : Table) (told : ℕ → Option (List ℕ)) (epoch : ℕ) (start : List (List Tuple)) (disks : List D) (past : Past) : Type 0 where
    pub records : ℕ → List (List ℕ)
    pub others : ℕ → List (List ℕ)
    pub numbers : ℕ → ℕ
    pub mounted : MountedInPairs table told records epoch start
    pub others_are : AreOthers mounted others
    pub numbers_are : AreNumbers mounted numbers
    pub grown : (pair : ℕ) (disk : D) → pair ≤ table.copies → slice_get disks (active_place table mounted.swapped pair) ≡ Some disk
        → is_some (of_active table mounted.swapped told pair) ≡ true → ∥ HasGrown (records pair) (AreOfRun (setting_of table start) pair past) disk ∥₁
    pub kept : (pair : ℕ) (disk : D) → pair ≤ table.copies → slice_get disks (other_place table mounted.swapped pair) ≡ Some disk
        → is_some (of_other table mounted.swapped told pair) ≡ true → ∥ HasGrown (others pair) (λ more. more ≡ []) disk ∥₁
        ⊎ (HasEnded past × (numbers pair < 2 ^ 63)
        × ∥ WasFoldedInto (others pair) (made_other table mounted.swapped pair) (base_of_fold table numbers epoch start pair past) disk ∥₁)

  -- A store was mounted over disks that told this and had counted so many faults, for an epoch, with journals up to a
  -- limit, and its copies started so. Where each disk told its bytes and has not failed since, the history is not full,
  -- no pair has the last number, and each base and what stands before it fit the limit, each pair was folded.
  pub record WereFolded (table : Table) (most : ℕ) (told : ℕ → Option (List ℕ)) (counts : ℕ → ℕ) (epoch : ℕ) (start : List (List Tuple)) (disks : List D) (past : Past) : Type 0 where
    pub records : ℕ → List (List ℕ)
    pub numbers : ℕ → ℕ
    pub mounted : MountedInPairs table told records epoch start
    pub numbers_are : AreNumbers mounted numbers
    pub folded : AllTell table.copies told → length past < limit
        → ((place : ℕ) (disk : D) → slice_get disks place ≡ Some disk → Rose (counts place) (view disk).faults → ⊥)
        → ((pair : ℕ) → pair ≤ table.copies → (at : ℕ) → HasNoRoom (numbers pair) most (made_other table mounted.swapped pair) (base_of_fold table numbers epoch start pair past) at → ⊥)
        → (images : List (List ℕ)) → AreImages disks images → ∥ AreFoldedInPairs table start epoch past images ∥₁

  -- A store was mounted over disks that told this, with journals up to a limit, and its copies started so; then the
  -- disks were the firsts, of each pair the active one and the other one. Each active disk that is left keeps, where it
  -- told its bytes, the records of the mounting, and then what the history tells; and so it did at each moment since it
  -- was the first. Each other one keeps what was found on it, or was folded into. Where the session came to its end,
  -- each pair was folded that nothing barred.
  pub record HasKept (table : Table) (most : ℕ) (told : ℕ → Option (List ℕ)) (stored : Stored D) : Type 0 where
    pub records : ℕ → List (List ℕ)
    pub others : ℕ → List (List ℕ)
    pub numbers : ℕ → ℕ
    pub firsts : ℕ → D
    pub other_firsts : ℕ → D
    pub mounted : MountedInPairs table told records stored.epoch stored.ended.start
    pub others_are : AreOthers mounted others
    pub numbers_are : AreNumbers mounted numbers
    pub was : (pair : ℕ) → pair ≤ table.copies → WasMounted (firsts pair) (records pair) (of_active table mounted.swapped told pair)
    pub other_was : (pair : ℕ) → pair ≤ table.copies → WasMounted (other_firsts pair) (others pair) (of_other table mounted.swapped told pair)
    pub kept : AllKeep (setting_of table stored.ended.start) (record {
      swapped = mounted.swapped;
      active = λ pair. record { told = is_some (of_active table mounted.swapped told pair); before = records pair; first = view (firsts pair) };
      other = λ pair. record { told = is_some (of_other table mounted.swapped told pair); before = others pair; first = view (other_firsts pair) };
      number = numbers;
      made = λ pair. made_other table mounted.swapped pair;
      limit = most;
      epoch = stored.epoch;
    }) view (IsOk stored.ended.ran) stored.ended.disks.items (reverse stored.ended.trail)

  -- A session ran over a store that was mounted over disks that told this and had counted so many faults, with journals
  -- up to a limit: all that is known of what it left.
  pub record HasRun (plan : ScriptPlan) (most : ℕ) (told : ℕ → Option (List ℕ)) (counts : ℕ → ℕ) (stored : Stored D) : Type 0 where
    pub legal : Legal (setting_of plan.table stored.ended.start) (past_of stored)
    pub bounded : length stored.ended.trail ≤ limit
    pub epoch : (1 ≤ stored.epoch) × (stored.epoch < 2 ^ 32)
    pub follows : OnOk stored.ended.ran (FollowsScript stored.epoch plan.patience plan.sessions (past_of stored))
    pub begins : BeginsScript stored.epoch plan.patience plan.sessions (past_of stored)
    pub room : IsErrOf stored.ended.ran Room → length stored.ended.trail ≡ limit
    pub kept : HasKept plan.table most told stored
    pub paid : HavePaid plan.table told counts stored.epoch stored.ended.start (disks_of stored) (past_of stored)
    pub folded : IsOk stored.ended.ran → HasEnded (past_of stored) → WereFolded plan.table most told counts stored.epoch stored.ended.start (disks_of stored) (past_of stored)
