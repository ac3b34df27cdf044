-- What is known of the disks while a system is taken apart, and when it is.
use Rattle.std.specs.Prelude.{◌≡◌, ◌<◌, ◌≤◌, ◌⊎◌, ℕ, ◌+◌, Bool, true, false, cond, List, [], ◌∷◌, length, min, Some, slice_get}
use Rattle.qc_disk.specs.Disk.{DiskView as Disk}
use Rattle.qc_event.specs.Base.{Setting}
use Rattle.qc_event.specs.History.{Past, limit}
use Rattle.qc_event.specs.Legal.{Legal}
use Rattle.qc_event.specs.Listed.{listed}
use Rattle.qc_event.specs.Seats.{copy_seat, ledger_seat}
use Rattle.qc_event.specs.Standing.{HasEnded}
use Rattle.qc_ledger.specs.Since.{AreTopsBy}
use Rattle.qc_desk.specs.declared.view.View.{View}
use Rattle.qc_desk.specs.Entries.{IsOlder, entries_of}
use Rattle.qc_desk.specs.Rules.{Has}
use Rattle.qc_site.specs.Since.{AreGrantsBy}
use Rattle.qc_system.specs.Folds.{held_in, EndedSince, IsFolded, IsFree, IsLeftBy, OtherFolds, OtherKeeps, WasFolded}
use Rattle.qc_system.specs.Grown.{GrownFrom}
use Rattle.qc_system.specs.Kept.{CopyHadNoRoom, HadNoRoom, NoneStrange, Pays, downs}
use Rattle.qc_system.specs.Left.{KeepsGrants, KeepsTops}
use Rattle.qc_system.specs.Pairs.{own_then_spares}
use Rattle.qc_system.specs.Parts.{Findings}

-- what a disk has to do with a history
abbrev pub Keeping : Type 1
Keeping = Disk → Past → Type 0

module _ (setting : Setting) (found : Findings) where
  -- The ledger's active disk keeps the ledger's tops, where it tells its bytes, and kept those up to then at each moment since the mounting; it pays for each that was not logged for a failure. Where it tells, the record of each that was not logged for want of room would have passed the limit.
  pub record LedgerKeeps (disk : Disk) (past : Past) : Type 0 where
    pub kept : ∥ ((found.active 0).told ≡ true → KeepsTops (found.active 0).before disk.may_leave past) ∥₁
    pub grown : ∥ ((found.active 0).told ≡ true → GrownFrom (found.active 0).first (found.active 0).before (AreTopsBy (listed past) past) disk) ∥₁
    pub paid : Pays (found.active 0).first.faults (downs (entries_of ledger_seat past)) disk.faults
    pub full : (found.active 0).told ≡ true → HadNoRoom (listed past) (found.active 0).before found.limit (entries_of ledger_seat past)

  -- A copy's active disk keeps the copy's grants, where it tells its bytes, and kept those up to then at each moment since the mounting; it pays for each request that it was down for. Where it tells, of each request that had no room a grant might have been made, and its record would have passed the limit, and the copy was never strange.
  pub record CopyKeeps (copy : ℕ) (disk : Disk) (past : Past) : Type 0 where
    pub kept : ∥ ((found.active (copy + 1)).told ≡ true → KeepsGrants setting (length setting.base) copy (found.active (copy + 1)).before disk.may_leave past) ∥₁
    pub grown : ∥ ((found.active (copy + 1)).told ≡ true → GrownFrom (found.active (copy + 1)).first (found.active (copy + 1)).before (AreGrantsBy setting copy past) disk) ∥₁
    pub paid : Pays (found.active (copy + 1)).first.faults (downs (entries_of (copy_seat copy) past)) disk.faults
    pub full : ∥ ((found.active (copy + 1)).told ≡ true → CopyHadNoRoom setting copy (found.active (copy + 1)).before found.limit past (entries_of (copy_seat copy) past)) ∥₁
    pub plain : (found.active (copy + 1)).told ≡ true → NoneStrange (entries_of (copy_seat copy) past)

  -- of a disk and its spare the active one, and the other one
  abbrev pub active_of : ℕ → Disk → Disk → Disk
  active_of pair own spare = cond (found.swapped pair) spare own

  abbrev pub other_of : ℕ → Disk → Disk → Disk
  other_of pair own spare = cond (found.swapped pair) own spare

  -- In the end its active disk keeps what is in the history, and the other one has what was found there, or was folded, once each top had its end.
  pub record PairKeeps (pair : ℕ) (keeps : Keeping) (own spare : Disk) (past : Past) : Type 0 where
    pub active : keeps (active_of pair own spare) past
    pub other : OtherKeeps setting found pair (other_of pair own spare) ⊎ (HasEnded past × OtherFolds setting found pair (held_in setting found pair past) (other_of pair own spare))

  -- An active disk was left by a pass with a number, whose own entries were joined: it keeps what that had seen.
  pub record WasLeft (v : View) (number : ℕ) (keeps : Keeping) (active : Disk) : Type 0 where
    pub seen : Past
    pub older : IsOlder seen v.seen
    pub legal : Legal setting seen
    pub joined : Has v.kin (number, entries_of number seen)
    pub kept : keeps active seen

  module _ {D : Type 0} (view : D → Disk) where
    -- A copy's pair has left: its other disk has what was found there, or was folded. Where all pairs were up to now, it was, to its end.
    pub record CopyLeft (since : Past) (whole : Bool) (pairs : List (D × D)) (v : View) (copy : ℕ) : Type 0 where
      pub own : D
      pub spare : D
      pub there : slice_get pairs copy ≡ Some (own, spare)
      pub left : WasLeft v (copy_seat copy) (CopyKeeps copy) (active_of (copy + 1) (view own) (view spare))
      pub other : IsLeftBy setting found since (copy + 1) (other_of (copy + 1) (view own) (view spare)) left.seen
      pub folded : whole ≡ true → WasFolded setting found since (copy + 1) (other_of (copy + 1) (view own) (view spare)) left.seen
          × IsFolded setting found (copy + 1) (held_in setting found (copy + 1) left.seen) (other_of (copy + 1) (view own) (view spare))

    -- nothing barred a copy's pair from being folded, whatever its pass had seen since a time
    abbrev pub IsFreeSince : Past → List (D × D) → View → ℕ → Type 0
    IsFreeSince since pairs v copy = (own spare : D) (seen : Past) → slice_get pairs copy ≡ Some (own, spare) → IsOlder since seen → IsOlder seen v.seen
        → Has v.kin (copy_seat copy, entries_of (copy_seat copy) seen)
        → IsFree setting found (copy + 1) (held_in setting found (copy + 1) seen) (active_of (copy + 1) (view own) (view spare)) (other_of (copy + 1) (view own) (view spare))

    -- The copies below this one have left. All pairs were folded up to now where memory was not wanting, each top had its end since a time, the history was not full, and nothing barred one of them.
    pub record HaveLeft (since : Past) (below : ℕ) (whole wanting : Bool) (pairs : List (D × D)) (v : View) : Type 0 where
      pub many : length pairs ≡ min below (length setting.base)
      pub copies : (k : ℕ) → k < below → k < length setting.base → CopyLeft since whole pairs v k
      pub free : wanting ≡ false → EndedSince since v.seen → length v.seen < limit
          → ((k : ℕ) → k < below → k < length setting.base → IsFreeSince since pairs v k) → whole ≡ true

    -- All have left, the ledger last, which had seen no more than this time. It was folded only where all copies were.
    pub record AllLeft (since : Past) (whole wanting : Bool) (pairs : List (D × D)) (v : View) : Type 0 where
      pub own : D
      pub spare : D
      pub rest : List (D × D)
      pub pairs_are : pairs ≡ (own, spare) ∷ rest
      pub copies_whole : Bool
      pub copies_wanting : Bool
      pub copies : HaveLeft since 16 copies_whole copies_wanting rest v
      pub ledger : WasLeft v ledger_seat LedgerKeeps (active_of 0 (view own) (view spare))
      pub knew : IsOlder ledger.seen since
      pub other : OtherKeeps setting found 0 (other_of 0 (view own) (view spare))
          ⊎ ((copies_whole ≡ true) × WasFolded setting found since 0 (other_of 0 (view own) (view spare)) v.seen)
      pub folded : whole ≡ true → (copies_whole ≡ true) × IsFolded setting found 0 [] (other_of 0 (view own) (view spare))
      pub free : wanting ≡ false → EndedSince since v.seen → copies_whole ≡ true → IsFree setting found 0 [] (active_of 0 (view own) (view spare)) (other_of 0 (view own) (view spare)) → whole ≡ true
      pub wants : wanting ≡ false → copies_wanting ≡ false

    -- A pair keeps what is in the history.
    pub record DisksKeep (pairs : List (D × D)) (pair : ℕ) (keeps : Keeping) (past : Past) : Type 0 where
      pub own : D
      pub spare : D
      pub there : slice_get pairs pair ≡ Some (own, spare)
      pub kept : PairKeeps pair keeps (view own) (view spare) past

    -- each pair from one on was folded, to what it holds in the end
    abbrev pub AreFolded : ℕ → List (D × D) → Past → Type 0
    AreFolded from pairs past = (pair : ℕ) (own spare : D) → from ≤ pair → slice_get pairs pair ≡ Some (own, spare)
        → IsFolded setting found pair (held_in setting found pair past) (other_of pair (view own) (view spare))

    -- nothing bars a pair from that: each top has its end, the history is not full, and each pair is free
    pub record AreFree (pairs : List (D × D)) (past : Past) : Type 0 where
      pub ended : HasEnded past
      pub room : length past < limit
      pub each : (pair : ℕ) (own spare : D) → slice_get pairs pair ≡ Some (own, spare)
          → IsFree setting found pair (held_in setting found pair past) (active_of pair (view own) (view spare)) (other_of pair (view own) (view spare))

    -- All disks are there, the ledger's first and then their spares, and keep what is in the history. Into the ledger's other disk nothing was folded, or each copy's pair was. Where all was done, each pair was folded that nothing barred.
    pub record AllKeep (Done : Type 0) (disks : List D) (past : Past) : Type 0 where
      pub pairs : List (D × D)
      pub disks_are : disks ≡ own_then_spares pairs
      pub many : length pairs ≡ length setting.base + 1
      pub ledger : DisksKeep pairs 0 LedgerKeeps past
      pub copies : (k : ℕ) → k < length setting.base → DisksKeep pairs (k + 1) (CopyKeeps k) past
      pub last : OtherKeeps setting found 0 (other_of 0 (view ledger.own) (view ledger.spare)) ⊎ AreFolded 1 pairs past
      pub done : Done → AreFree pairs past → AreFolded 0 pairs past
