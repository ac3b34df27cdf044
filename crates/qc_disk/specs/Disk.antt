-- What a call of a disk does to its content, to what a crash may leave of it, to its clock and to its count of faults.
use Rattle.std.specs.Prelude.{◌≡◌, ◌<◌, ◌≤◌, ◌⊎◌, ◌↔◌, ℕ, ◌+◌, ◌-◌, ◌^◌, min, max, List, ◌++◌, length, take, drop, slice_index, Option, Some, None}

-- A disk at a moment.
pub record DiskView : Type 1 where
  -- the bytes that a read returns, where the disk tells
  pub content : Option (List ℕ)
  -- how many bytes there are: as a disk that does not tell its bytes last knew it
  pub size : ℕ
  -- what a crash at this moment may leave
  pub may_leave : List ℕ → Type 0
  -- the moment, on a clock that never falls; each call advances it, up to `2^64 - 1` at least, and one that answers want of memory may leave it
  pub moment : ℕ
  -- what a crash at a moment up to this one might have left, during a call or between two
  pub left_at : ℕ → List ℕ → Type 0
  -- how often the disk has failed, up to `2^64 - 1`
  pub faults : ℕ
  -- how often it was synced, up to `2^64 - 1`
  pub syncs : ℕ

-- one more, up to the end of a count's range
abbrev pub next : ℕ → ℕ
next n = min (n + 1) (2 ^ 64 - 1)

-- a count rose; one that stands at the end of its range counts as risen
abbrev pub Rose : ℕ → ℕ → Type 0
Rose before now = next before ≤ now

-- The count of faults never falls, and it rose where this fails.
pub record HasCause (before now : ℕ) (Failed : Type 0) : Type 0 where
  pub later : before ≤ now
  pub failed : Failed → Rose before now

-- The count of faults rises by one at most, and only where this fails.
pub record CountsOnce (before now : ℕ) (Failed : Type 0) : Type 0 where
  pub once : now ≤ before + 1
  pub spared : (Failed → ⊥) → now ≡ before

-- these bytes with others written at a place
abbrev pub written : ℕ → List ℕ → List ℕ → List ℕ
written at bytes old = take at old ++ bytes ++ drop (at + length bytes) old

-- What may be left of a write of n bytes at a place: the same bytes before the range and behind it, any in it and past the old end.
pub record Torn (at n : ℕ) (old new : List ℕ) : Type 0 where
  pub before : (i : ℕ) → i < at → i < length old → slice_index new i ≡ slice_index old i
  pub after : (i : ℕ) → at + n ≤ i → i < length old → slice_index new i ≡ slice_index old i
  pub no_shorter : length old ≤ length new
  pub no_longer : length new ≤ max (length old) (at + n)

-- What may be left of a cut to a length: the same bytes before it, any behind it, and a length between.
pub record Cut (to : ℕ) (old new : List ℕ) : Type 0 where
  pub before : (i : ℕ) → i < to → i < length new → slice_index new i ≡ slice_index old i
  pub no_shorter : min to (length old) ≤ length new
  pub no_longer : length new ≤ length old

-- each new image is an old one after a step
abbrev pub ImagesFollow : (List ℕ → List ℕ → Type 0) → (List ℕ → Type 0) → (List ℕ → Type 0) → Type 0
ImagesFollow step before now = (c : List ℕ) → now c → (d : List ℕ) × before d × step d c

-- there are no images but those from before
abbrev pub Within : (List ℕ → Type 0) → (List ℕ → Type 0) → Type 0
Within before now = (c : List ℕ) → now c → before c

-- where the content is told, a crash leaves it and nothing else
abbrev pub Only : Option (List ℕ) → (List ℕ → Type 0) → Type 0
Only None images = Unit {0}
Only (Some bytes) images = (c : List ℕ) → images c → c ≡ bytes

-- where the content is told, it is one of the images
abbrev pub IsImage : Option (List ℕ) → (List ℕ → Type 0) → Type 0
IsImage None images = Unit {0}
IsImage (Some bytes) images = images bytes

-- where the content is told, this is its length
abbrev pub HasLength : Option (List ℕ) → ℕ → Type 0
HasLength None n = Unit {0}
HasLength (Some bytes) n = n ≡ length bytes

-- a content goes over to another by a step; a disk goes on telling, or goes on not to
abbrev pub Steps : (List ℕ → List ℕ → Type 0) → Option (List ℕ) → Option (List ℕ) → Type 0
Steps step None now = now ≡ None
Steps step (Some bytes) now = (c : List ℕ) × (now ≡ Some c) × step bytes c

-- where the content is told, these bytes stand in it from a place on
abbrev pub Holds : Option (List ℕ) → ℕ → List ℕ → Type 0
Holds None at bytes = Unit {0}
Holds (Some content) at bytes = bytes ≡ take (length bytes) (drop at content)

-- Time goes on: what a crash left at earlier moments stays, at a moment of the call it leaves what it left before or what it leaves now, and until the call has ended all that it left before.
pub record Elapses (before now : DiskView) : Type 0 where
  pub later : before.moment ≤ now.moment
  pub earlier : (t : ℕ) (c : List ℕ) → t < before.moment → now.left_at t c ↔ before.left_at t c
  pub inside : (t : ℕ) (c : List ℕ) → before.moment ≤ t → t ≤ now.moment → now.left_at t c → before.may_leave c ⊎ now.may_leave c
  pub until : (t : ℕ) (c : List ℕ) → before.moment ≤ t → t < now.moment → before.may_leave c → now.left_at t c

-- the clock rose, unless there was no memory for the call
abbrev pub Advances : ℕ → ℕ → Type 0 → Type 0
Advances before now NoMemory = NoMemory ⊎ Rose before now

-- All but the clock is as before.
pub record Stays (before now : DiskView) : Type 0 where
  pub content : now.content ≡ before.content
  pub size : now.size ≡ before.size
  pub images : (c : List ℕ) → now.may_leave c ↔ before.may_leave c
  pub faults : now.faults ≡ before.faults

-- A crash at any moment since old leaves what has P; earlier moments are as they were.
pub record LeavesOnly {D : Type 0} (view : D → DiskView) (old new : D) (P : List ℕ → Type 0) : Type 0 where
  pub later : (view old).moment ≤ (view new).moment
  pub each : (t : ℕ) (c : List ℕ) → (view old).moment ≤ t → t ≤ (view new).moment → (view new).left_at t c → P c
  pub earlier : (t : ℕ) (c : List ℕ) → t < (view old).moment → (view new).left_at t c ↔ (view old).left_at t c

-- All that a crash leaves at a moment has P.
abbrev pub AllAt : {D : Type 0} → (D → DiskView) → D → ℕ → (List ℕ → Type 0) → Type 0
AllAt view disk t P = (c : List ℕ) → (view disk).left_at t c → P c

-- Since old, what all images at a moment have, all have later; and all have what all had when the run began.
pub record Grows {D : Type 0} (view : D → DiskView) (old new : D) (P : List ℕ → Type 0) : Type 0 where
  pub from_before : (t : ℕ) → (view old).moment ≤ t → t ≤ (view new).moment → AllAt view old (view old).moment P → AllAt view new t P
  pub within : (t u : ℕ) → (view old).moment ≤ t → t ≤ u → u ≤ (view new).moment → AllAt view new t P → AllAt view new u P

-- Since old images only fall away: each at a later moment is one at an earlier.
pub record FallsAway {D : Type 0} (view : D → DiskView) (old new : D) : Type 0 where
  pub from_before : (t : ℕ) (c : List ℕ) → (view old).moment ≤ t → t ≤ (view new).moment → (view new).left_at t c → (view old).left_at (view old).moment c
  pub within : (t u : ℕ) (c : List ℕ) → (view old).moment ≤ t → t ≤ u → u ≤ (view new).moment → (view new).left_at u c → (view new).left_at t c

-- Since old there was one change: from each moment on images only fall away, or at it all are still left that were when the run began.
abbrev pub ChangesOnce : {D : Type 0} → (D → DiskView) → D → D → Type 0
ChangesOnce view old new = (t u : ℕ) → (view old).moment ≤ t → t ≤ u → u ≤ (view new).moment
    → ((c : List ℕ) → (view new).left_at u c → (view new).left_at t c) ⊎ ((c : List ℕ) → (view old).left_at (view old).moment c → (view new).left_at t c)
