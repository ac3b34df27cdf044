-- What was mounted, and what is known of the first pass while a system is opened.
use Rattle.std.specs.Prelude.{◌≡◌, ℕ, ◌+◌, ◌-◌, ◌<◌, ◌≤◌, Bool, true, false, List, [], ◌∷◌, length, min, slice_index_or}
use Rattle.qc_config.specs.declared.tuple.Tuple.{Tuple}
use Rattle.qc_disk.specs.Disk.{DiskView as Disk}
use Rattle.qc_disk.specs.declared.disk.Disk.{Ghosts}
use Rattle.qc_journal.specs.Journal.{disk_of, limit_of, IsUp, Keeps}
use Rattle.qc_journal.specs.declared.journal.Journal.{Journal}
use Rattle.qc_event.specs.History.{Past}
use Rattle.qc_ledger.specs.Mounted as book
use Rattle.qc_pair.specs.Fold.{active_number, copies_in, epoch_in, made_in, other_in, swapped_in}
use Rattle.qc_pair.specs.declared.fold.Fold.{Fold}
use Rattle.qc_desk.specs.declared.view.View.{View}
use Rattle.qc_desk.specs.Rules.{Has}
use Rattle.qc_site.specs.Mounted.{copies_of, copy_of, journal_of, records_of}
use Rattle.qc_site.specs.Start.{start_of}
use Rattle.qc_system.specs.Grown.{LeftAlike, no_disk}
use Rattle.qc_site.specs.declared.mounted.Mounted.{Mounted}
use Rattle.qc_system.specs.Pairs.{pairs_in}
use Rattle.qc_system.specs.declared.boxed.Boxed.{Boxed}
use Rattle.qc_system.specs.declared.others.Others.{Others}
use Rattle.qc_system.specs.declared.parts.CopyPair.{CopyPair}
use Rattle.qc_system.specs.declared.parts.LedgerPair.{LedgerPair}

-- The first pass has given so many passes away, has done nothing else, and has seen nothing.
pub record IsOpening (v : View) (count : ℕ) : Type 0 where
  pub live : v.live ≡ true
  pub number : v.number ≡ 0
  pub given : v.count ≡ count
  pub out : v.out ≡ []
  pub mine : v.mine ≡ []
  pub kin : v.kin ≡ []
  pub seen : v.seen ≡ []

-- the first pass, with all its passes joined back but those of the ledger and the copies
abbrev pub IsClosing : View → Type 0
IsClosing v = (v.live ≡ true) × (v.number ≡ 0) × (v.out ≡ [])

-- What the ledger's pass and the copies' add to the first one: it has entered nothing more, who was joined before still is,
-- and no other client is.
pub record JoinsLow (v w : View) : Type 0 where
  pub mine : w.mine ≡ v.mine
  pub still : (k : ℕ) (own : Past) → Has v.kin (k, own) → Has w.kin (k, own)
  pub no_other : (k : ℕ) (own : Past) → 17 < k → Has w.kin (k, own) → Has v.kin (k, own)

-- a copy is there where there are more copies than its number
abbrev pub IsThere : ℕ → ℕ → Bool → Type 0
IsThere copy all there = (copy < all → there ≡ true) × (all ≤ copy → there ≡ false)

-- What was found on a disk at its mounting: whether it tells its bytes, the bodies of its records, and the disk as it was then.
pub record Found : Type 1 where
  pub told : Bool
  pub before : List (List ℕ)
  pub first : Disk

-- What was found of all pairs, by their numbers: whether the spare is active, what was found on the active disk, and what on the
-- other; the number of the active one's base, and how the other is made. The most bytes of a journal, and the epoch of the run.
pub record Findings : Type 1 where
  pub swapped : ℕ → Bool
  pub active : ℕ → Found
  pub other : ℕ → Found
  pub number : ℕ → ℕ
  pub made : ℕ → List ℕ
  pub limit : ℕ
  pub epoch : ℕ

-- nothing was found
abbrev pub not_found : Found
not_found = record { told = false; before = []; first = no_disk }

abbrev pub no_findings : Findings
no_findings = record { swapped = λ _. false; active = λ _. not_found; other = λ _. not_found; number = λ _. 0; made = λ _. []; limit = 0; epoch = 0 }

-- This was found on a journal's disk: its records, which it keeps where it tells its bytes; and that it was this disk then, by its
-- count of faults, its moment, and what a crash left before that.
pub record IsFound {D : Type 0} {g : Ghosts D} (found : Found) (records : List (List ℕ)) (journal : Journal D g) : Type 0 where
  pub same : found.before ≡ records
  pub keeps : found.told ≡ true → Keeps journal records
  pub count : found.first.faults ≡ (g.view (disk_of journal)).faults
  pub at : found.first.moment ≡ (g.view (disk_of journal)).moment
  pub left : LeftAlike found.first (g.view (disk_of journal))

-- The other journal of a pair, in a store of so many copies, is up, and as it was found; and so is what a fold writes there.
pub record IsOther {D : Type 0} {g : Ghosts D} (copies : ℕ) (found : Findings) (pair : ℕ) (fold : Fold D g) : Type 0 where
  pub swapped : swapped_in fold ≡ found.swapped pair
  pub up : IsUp (other_in fold)
  pub disk : IsFound (found.other pair) (found.other pair).before (other_in fold)
  pub limit : limit_of (other_in fold) ≡ found.limit
  pub number : active_number fold ≡ found.number pair
  pub made : made_in fold ≡ found.made pair
  pub epoch : epoch_in fold ≡ found.epoch
  pub many : copies_in fold ≡ copies

-- The ledger was mounted so.
pub record IsLedger {D : Type 0} {g : Ghosts D} (copies : ℕ) (found : Findings) (ledger : LedgerPair D g) : Type 0 where
  pub disk : IsFound (found.active 0) (book.records_of ledger.book) (book.journal_of ledger.book)
  pub limit : limit_of (book.journal_of ledger.book) ≡ found.limit
  pub other : IsOther copies found 0 ledger.fold

-- The other journals of pairs from one on are so, in order.
abbrev pub AreOthers : {D : Type 0} {g : Ghosts D} → ℕ → Findings → ℕ → List (Fold D g) → Type 0
AreOthers copies found pair [] = Unit {0}
AreOthers copies found pair (f ∷ fs) = IsOther copies found pair f × AreOthers copies found (pair + 1) fs

-- The journal of this copy was mounted so, of a store whose copies start with these tuples.
pub record IsCopy {D : Type 0} {g : Ghosts D} (base : List (List Tuple)) (found : Findings) (copy : ℕ) (mounted : Mounted D g) : Type 0 where
  pub number : copy_of mounted ≡ copy
  pub many : copies_of mounted ≡ length base
  pub starts : start_of mounted ≡ slice_index_or base copy []
  pub disk : IsFound (found.active (copy + 1)) (records_of mounted) (journal_of mounted)
  pub limit : limit_of (journal_of mounted) ≡ found.limit

-- This copy's pair was.
pub record IsMounted {D : Type 0} {g : Ghosts D} (base : List (List Tuple)) (found : Findings) (copy : ℕ) (pair : CopyPair D g) : Type 0 where
  pub active : IsCopy base found copy pair.copy
  pub other : IsOther (length base) found (copy + 1) pair.fold

-- the copies from this one on were mounted so, in order
abbrev pub AreMounted : {D : Type 0} {g : Ghosts D} → List (List Tuple) → Findings → ℕ → List (CopyPair D g) → Type 0
AreMounted base found copy [] = Unit {0}
AreMounted base found copy (m ∷ ms) = IsMounted base found copy m × AreMounted base found (copy + 1) ms

-- the copies from this one on wait to be entered
abbrev pub AreWaiting : {D : Type 0} {g : Ghosts D} → List (List Tuple) → Findings → ℕ → List (CopyPair D g) → Type 0
AreWaiting base found copy ms = (length ms ≡ length base - copy) × AreMounted base found copy ms

-- the ledger and the copies before this one were entered, and left their other journals
abbrev pub HaveEntered : {D : Type 0} {g : Ghosts D} → List (List Tuple) → Findings → ℕ → List (Fold D g) → Type 0
HaveEntered base found copy folds = (length folds ≡ min copy (length base) + 1) × AreOthers (length base) found 0 folds

-- the other journals of the copies from this one on, of so many, are not yet handed back
abbrev pub AreKeptBack : {D : Type 0} {g : Ghosts D} → ℕ → Findings → ℕ → List (Fold D g) → Type 0
AreKeptBack copies found copy folds = (length folds ≡ copies - copy) × AreOthers copies found (copy + 1) folds

-- What stands beside a system of so many copies: the other journal of each pair, and empty room for the disks.
pub record AreBeside {D : Type 0} {g : Ghosts (Boxed D)} (copies : ℕ) (found : Findings) (others : Others D g) : Type 0 where
  pub many : length others.folds.items ≡ copies + 1
  pub are : AreOthers copies found 0 others.folds.items
  pub none : pairs_in others.returns ≡ []
