-- What reading a copy's disk back answers.
use Rattle.std.specs.Prelude.{ℕ, ◌≡◌, ◌≢◌, ◌+◌, ◌<◌, ◌≤◌, ◌⊎◌, Bool, true, false, List, [], ◌∷◌, ◌++◌, length, map, take, drop, slice_get, slice_index_or, Option, None, Some, Result, Ok, Err}
use Rattle.qc_event.specs.declared.event.Grant.{Grant}
use Rattle.qc_codec.specs.Bodies as body
use Rattle.qc_codec.specs.Fields.{current}
use Rattle.qc_codec.specs.Form.{all_of}
use Rattle.qc_journal.specs.Image.{HasRecords, IsBroken}
use Rattle.qc_disk.specs.declared.disk.Disk.{Ghosts}
use Rattle.qc_journal.specs.Journal.{in_hand, with_hand, Keeps}
use Rattle.qc_journal.specs.declared.journal.Journal.{Journal}
use Rattle.qc_journal.specs.declared.fault.Fault.{Fault}
use Rattle.qc_journal.specs.declared.fault.Fault.TheVariants as fault
use Rattle.qc_site.specs.declared.back.BackNo.{BackNo}
use Rattle.qc_site.specs.declared.back.BackNo.TheVariants as no_back
use Rattle.qc_site.specs.declared.back.Strange.TheVariants.{Broken, Grammar, Short, Differs}

-- the body of a grant's record, in a store of so many copies
abbrev pub grant_body : ℕ → Grant → List ℕ
grant_body copies g = (body.grant (current copies)).spell g

-- each body is a grant, and together they are these
abbrev pub AreGrants : ℕ → List Grant → List (List ℕ) → Type 0
AreGrants copies gs bodies = map (all_of (body.grant (current copies))) bodies ≡ map Some gs

-- the first body that is no grant has this index
abbrev pub IsFirstUnread : ℕ → ℕ → List (List ℕ) → Type 0
IsFirstUnread copies index bodies = (index < length bodies) × (all_of (body.grant (current copies)) (slice_index_or bodies index []) ≡ None) × ((gs : List Grant) × AreGrants copies gs (take index bodies))

-- two lists first differ at this index
abbrev pub IsFirstApart : {A : Type 0} → ℕ → List A → List A → Type 0
IsFirstApart index xs ys = (take index xs ≡ take index ys) × (slice_get xs index ≢ slice_get ys index)

-- these grants are those given, and the one in hand
abbrev pub IsWithHand : List Grant → Option Grant → List Grant → Type 0
IsWithHand given None gs = ⊥
IsWithHand given (Some g) gs = gs ≡ given ++ g ∷ []

-- what a fault of the journal is to a reading back
abbrev pub back_no : Fault → BackNo
back_no fault.Disk = no_back.Disk
back_no (fault.Broken place) = no_back.Strange (Broken place)
back_no (fault.Full place) = no_back.Disk
back_no fault.Memory = no_back.Memory

module _ (copies old : ℕ) (given : List Grant) (hand : Option Grant) where
  -- behind so many older records stand these grants
  abbrev pub Stand : List (List ℕ) → List Grant → Type 0
  Stand bodies gs = (old ≤ length bodies) × AreGrants copies gs (drop old bodies)

  -- what bodies answer: whether the grant in hand stands behind those given; or how they differ
  abbrev pub Says : List (List ℕ) → Result Bool BackNo → Type 0
  Says bodies (Ok true) = (gs : List Grant) × Stand bodies gs × IsWithHand given hand gs
  Says bodies (Ok false) = Stand bodies given
  Says bodies (Err no_back.Disk) = Unit {0}
  Says bodies (Err no_back.Memory) = Unit {0}
  Says bodies (Err (no_back.Strange (Broken place))) = ⊥
  Says bodies (Err (no_back.Strange (Grammar index))) = (old ≤ length bodies) × ((i : ℕ) × (index ≡ old + i) × IsFirstUnread copies i (drop old bodies))
  Says bodies (Err (no_back.Strange (Short records had))) = (records ≡ length bodies) × (had ≡ old) × (records < old)
  Says bodies (Err (no_back.Strange (Differs index disk desk))) = (gs : List Grant) × Stand bodies gs × IsFirstApart index gs given × (disk ≡ slice_get gs index) × (desk ≡ slice_get given index) × (IsWithHand given hand gs → ⊥)

  -- what an image answers, unless the disk failed or memory was wanting
  abbrev pub IsAnswer : Result Bool BackNo → List ℕ → Type 0
  IsAnswer (Err no_back.Disk) image = Unit {0}
  IsAnswer (Err no_back.Memory) image = Unit {0}
  IsAnswer (Err (no_back.Strange (Broken place))) image = IsBroken place image
  IsAnswer answer image = (bodies : List (List ℕ)) × HasRecords bodies image × Says bodies answer

-- nothing is strange
abbrev pub IsPlain : BackNo → Type 0
IsPlain (no_back.Strange strange) = ⊥
IsPlain _ = Unit {0}

-- what was found is what was kept, or that and what was in hand
abbrev pub WereFound : List (List ℕ) → Option (List ℕ) → List (List ℕ) → Type 0
WereFound bodies hand found = (found ≡ bodies) ⊎ (found ≡ with_hand bodies hand)

-- A reading back leaves the records that it found. Something goes on to be in hand only where nothing changed.
pub record IsLeft {D : Type 0} {g : Ghosts D} (old new : Journal D g) (bodies : List (List ℕ)) : Type 0 where
  pub found : List (List ℕ)
  pub is : WereFound bodies (in_hand old) found
  pub keeps : Keeps new found
  pub hand : (in_hand new ≡ None) ⊎ ((in_hand new ≡ in_hand old) × (found ≡ bodies))
