-- What is kept of the calls of a disk, and what was there before them: what is there now, with each
-- of them undone.
use Rattle.std.specs.Coded.{×_prop, Unit-prop}
use Rattle.std.proofs.Props.{props}
use Rattle.std.specs.Prelude.{◌≡◌, ℕ, ◌+◌, ◌-◌, min, List, [], ◌∷◌, ◌++◌, length, take, drop, reverse}
use Rattle.qc_disk.specs.Disk.{written}
use Rattle.qc_disk.specs.Replay.{Act, nothing, wrote, cut_to, synced, does}
use Rattle.qc_disk.specs.declared.records.Kind.{Kind}
use Rattle.qc_disk.specs.declared.records.Kind.TheVariants as kind
use Rattle.qc_disk.specs.declared.records.Change.{Change}
use Rattle.qc_disk.specs.declared.records.Records.{Records}
use Rattle.qc_disk.specs.declared.records.Past.{Past}

-- What is kept of a call: of a write or a cut its numbers, and the bytes that it wrote over or cut
-- off.
pub data Kept : Type 0 where
  none : Kept
  write : Change → List ℕ → Kept
  cut : Change → List ℕ → Kept
  sync : Kept

-- what was there before a write or a cut: what it added behind the end is cut off, and what it
-- wrote over or cut off stands in its place again
abbrev pub restored : Change → List ℕ → List ℕ → List ℕ
restored change lost now = written change.at lost (take (length now - change.added) now)

-- what was there before a call
abbrev pub before : Kept → List ℕ → List ℕ
before none now = now
before (write change lost) now = restored change lost now
before (cut change lost) now = restored change lost now
before sync now = now

-- what a write wrote: it stands where the write began, or at the old end
abbrev pub left_by : Change → List ℕ → List ℕ → List ℕ
left_by change lost now =
    take (length lost + change.added) (drop (min change.at (length now - change.added)) now)

-- what a call did
abbrev pub act_kept : Kept → List ℕ → Act
act_kept none now = nothing
act_kept (write change lost) now = wrote change.at (left_by change lost now)
act_kept (cut change lost) now = cut_to change.at
act_kept sync now = synced

-- what was there before all these calls, the newest first
abbrev pub first_of : List Kept → List ℕ → List ℕ
first_of [] now = now
first_of (call ∷ calls) now = first_of calls (before call now)

-- what they did, the oldest first
abbrev pub acts_of : List Kept → List ℕ → List Act
acts_of [] now = []
acts_of (call ∷ calls) now = acts_of calls (before call now) ++ act_kept call now ∷ []

-- what each did, done to what was there before it, makes what was there after it
abbrev pub IsExact : List Kept → List ℕ → Type 0
IsExact [] now = Unit {0}
IsExact (call ∷ calls) now =
    (does (act_kept call now) (before call now) ≡ now) × IsExact calls (before call now)

-- it has one proof at most
pub IsExact-prop : (calls : List Kept) (now : List ℕ) → IsProp (IsExact calls now)
IsExact-prop [] now = Unit-prop
IsExact-prop (call ∷ calls) now = ×_prop (hlevel props) (IsExact-prop calls (before call now))

-- the last bytes that were lost, as many as a change says
abbrev pub last_lost : Change → List ℕ → List ℕ
last_lost change lost = drop (length lost - change.over) lost

-- and those that were lost before
abbrev pub lost_before : Change → List ℕ → List ℕ
lost_before change lost = take (length lost - change.over) lost

-- what is kept of calls, by their kinds and changes, the newest first, and by all bytes that they
-- wrote over or cut off, the oldest first; a call whose change is not there counts as none
abbrev pub kept_newest : List Kind → List Change → List ℕ → List Kept
kept_newest [] changes lost = []
kept_newest (kind.Nothing ∷ kinds) changes lost = none ∷ kept_newest kinds changes lost
kept_newest (kind.Wrote ∷ kinds) [] lost = none ∷ kept_newest kinds [] lost
kept_newest (kind.Wrote ∷ kinds) (change ∷ changes) lost =
    write change (last_lost change lost) ∷ kept_newest kinds changes (lost_before change lost)
kept_newest (kind.Cut ∷ kinds) [] lost = none ∷ kept_newest kinds [] lost
kept_newest (kind.Cut ∷ kinds) (change ∷ changes) lost =
    cut change (last_lost change lost) ∷ kept_newest kinds changes (lost_before change lost)
kept_newest (kind.Synced ∷ kinds) changes lost = sync ∷ kept_newest kinds changes lost

-- what is kept of calls, the newest first, by what stands in the records, the oldest first
abbrev pub kept : List Kind → List Change → List ℕ → List Kept
kept kinds changes lost = kept_newest (reverse kinds) (reverse changes) lost

-- what records keep
abbrev pub records_kept : Records → List Kept
records_kept records = kept records.calls.items records.changes.items records.lost.items

-- what the records of the first calls keep
abbrev pub past_kept : Past → List Kept
past_kept past = kept past.calls.now past.changes.now past.lost.now

-- the newest call is undone, if there is one, and the others are left
abbrev pub StepsBack : List Kept → List ℕ → List Kept → List ℕ → Type 0
StepsBack [] now older was = (older ≡ []) × (was ≡ now)
StepsBack (call ∷ calls) now older was = (older ≡ calls) × (was ≡ before call now)
