-- The disks of a store: where they come from, and what a mounting leaves of each.
use Rattle.std.specs.Prelude.{ℕ, zero, suc, ◌≡◌, ◌+◌, ◌-◌, Bool, false, true, if◌then◌else◌, nat_lt, List, [], ◌∷◌, map, Option, None, slice_index_or}
use Rattle.std.specs.List.{range_with_len}
use Rattle.qc_codec.specs.Ledger.{past_in}
use Rattle.qc_codec.specs.declared.past.Past.{Past}
use Rattle.qc_disk.specs.Disk.{DiskView}
use Rattle.qc_disk.specs.Shop.{Tells}
use Rattle.qc_event.specs.declared.table.Table.{Table}
use Rattle.qc_ledger.specs.Image as ledger
use Rattle.qc_ledger.specs.Pairs.{MountsHalf}
use Rattle.qc_opening.specs.Numbered.{EachFrom}
use Rattle.qc_pair.specs.Opening.{HaveActive}
use Rattle.qc_pair.specs.Pair.{number_at}
use Rattle.qc_pair.specs.declared.kind.Kind.TheVariants as kind
use Rattle.qc_site.specs.Renewal.{MountsCopyHalf}

-- PLACES AND NUMBERS

-- how many disks a store of so many copies has: for the ledger and for each copy one, and for each of these a spare
abbrev pub all_places : ℕ → ℕ
all_places copies = copies + 1 + (copies + 1)

-- The disks of all pairs stand in a row, and behind them their spares: whether a spare stands at a place, and of which pair the disk
-- there is.
abbrev pub is_spare_at : ℕ → ℕ → Bool
is_spare_at copies place = nat_lt copies place

abbrev pub pair_at : ℕ → ℕ → ℕ
pair_at copies place = if nat_lt copies place then place - (copies + 1) else place

-- the number of the disk at a place
abbrev pub number_of : ℕ → ℕ → ℕ
number_of copies place = number_at (is_spare_at copies place) (pair_at copies place)

-- what is of the disk at a place, where it is told by the disks' numbers
abbrev pub by_place : {A : Type 0} → ℕ → (ℕ → A) → ℕ → A
by_place copies of_disk place = of_disk (number_of copies place)

-- the numbers of the first so many
abbrev pub first_numbers : ℕ → ℕ → List ℕ
first_numbers copies many = map (number_of copies) (range_with_len 0 many)

-- THE PAIRS

-- the active bodies of the ledger's pair, which told this, tell a past
abbrev pub TellsPast : Option (List ℕ) → Option (List ℕ) → Past → Type 0
TellsPast told spare_told past = (is_spare : Bool) × (found : List (List ℕ)) × HaveActive kind.Ledger 0 told spare_told is_spare found × (past ≡ past_in found)

-- what the disk of a place told, where they told this
abbrev pub told_by : {A : Type 0} → List (Option A) → ℕ → Option A
told_by told place = slice_index_or told place None

module _ {D : Type 0} (view : D → DiskView) where
  -- disks from a place on tell what was offered at theirs, where that was told
  abbrev pub AreOffered : (ℕ → Option (List ℕ)) → ℕ → List D → Type 0
  AreOffered offers place disks = EachFrom (λ n disk. Tells (offers n) (view disk).content) place disks

  -- disks from a place on have failed as often as is told of theirs
  abbrev pub AreCounted : (ℕ → ℕ) → ℕ → List D → Type 0
  AreCounted counts place disks = EachFrom (λ n disk. (view disk).faults ≡ counts n) place disks

  -- one of a pair's disks, which told this, was mounted behind a past of which this holds, and it is the one that failed, or is
  -- not; pair 0 is the ledger's, and each next one a copy's
  abbrev pub IsMounted : Table → (Past → Type 0) → ℕ → Option (List ℕ) → Option (List ℕ) → Bool → Type 0 → D → D → Type 0
  IsMounted table Tells zero told spare_told is_spare Failed old new = MountsHalf kind.Ledger 0 told spare_told (λ number. ledger.to_write number table) is_spare view Failed old new
  IsMounted table Tells (suc copy) told spare_told is_spare Failed old new = MountsCopyHalf copy table told spare_told Tells is_spare view Failed old new

  -- the first of pairs of disks, which is the ledger's, tells a past
  abbrev pub FirstTells : List (D × D) → Past → Type 0
  FirstTells [] past = ⊥
  FirstTells (disks ∷ more) past = TellsPast (view disks.0).content (view disks.1).content past

  -- A pair of disks, the disk first, was mounted, or it was not reached and is as it was.
  pub record IsPairLeft (table : Table) (Tells : Past → Type 0) (Failed Behind : ℕ → Type 0) (pair : ℕ) (old new : D × D) : Type 0 where
    pub own : IsMounted table Tells pair (view old.0).content (view old.1).content false (Failed pair) old.0 new.0
    pub spare : IsMounted table Tells pair (view old.0).content (view old.1).content true (Failed (pair + 17)) old.1 new.1
    pub behind : Behind pair → new ≡ old

  -- The disk at a place was mounted in its pair, where those at all places told this, or it was not reached and is as it was.
  pub record IsLeft (table : Table) (told : ℕ → Option (List ℕ)) (Failed Behind : ℕ → Type 0) (place : ℕ) (old new : D) : Type 0 where
    pub mounted : IsMounted table (TellsPast (told 0) (told (table.copies + 1 + 0))) (pair_at table.copies place) (told (pair_at table.copies place)) (told (table.copies + 1 + pair_at table.copies place)) (is_spare_at table.copies place) (Failed (number_of table.copies place)) old new
    pub behind : Behind (pair_at table.copies place) → new ≡ old
