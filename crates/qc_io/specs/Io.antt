-- What a call of a stream does to the bytes that the stream tells, and to its count of faults.
use Rattle.std.specs.Prelude.{◌≡◌, ◌<◌, ◌≤◌, ℕ, ◌+◌, ◌-◌, ◌^◌, min, List, [], ◌++◌, length, take, drop, Option, option_map, IfSome, Vec, Contains, Bool, if◌then◌else◌}
use Rattle.std.specs.declared.alloc.Global.{Global}
use Rattle.qc_io.specs.declared.memory.MemSink.{MemSink}
use Rattle.qc_io.specs.declared.memory.MemSource.{MemSource}
use Rattle.qc_io.specs.declared.memory.Schedule.{Schedule}

-- A source at a moment.
pub record SourceView : Type 0 where
  -- the bytes that are left to be read, where the source tells
  pub left : Option (List ℕ)
  -- how often it has failed, up to `2^64 - 1`
  pub faults : ℕ

-- A sink at a moment.
pub record SinkView : Type 0 where
  -- the bytes that it has taken, where it tells
  pub taken : Option (List ℕ)
  -- how often it has failed, up to `2^64 - 1`
  pub faults : ℕ

-- one more, up to the end of a count's range
abbrev pub next : ℕ → ℕ
next n = min (n + 1) (2 ^ 64 - 1)

-- the count of faults rose; one that stands at the end of its range counts as risen
abbrev pub Rose : ℕ → ℕ → Type 0
Rose before now = next before ≤ now

-- The count of faults never falls, and it rose where this fails.
pub record HasCause (before now : ℕ) (Failed : Type 0) : Type 0 where
  pub later : before ≤ now
  pub failed : Failed → Rose before now

-- A stream holds what it held before.
abbrev pub Keeps : Option (List ℕ) → Option (List ℕ) → Type 0
Keeps before now = now ≡ before

-- These bytes stood before what is left now. A stream goes on telling, or goes on not to.
abbrev pub Gave : Option (List ℕ) → Option (List ℕ) → List ℕ → Type 0
Gave before now bytes = before ≡ option_map (λ rest. bytes ++ rest) now

-- These bytes stand behind what was taken before. A stream goes on telling, or goes on not to.
abbrev pub Appends : Option (List ℕ) → Option (List ℕ) → List ℕ → Type 0
Appends before now bytes = now ≡ option_map (λ taken. taken ++ bytes) before

-- a front of these bytes stands behind what was taken before
abbrev pub AppendsFront : Option (List ℕ) → Option (List ℕ) → List ℕ → Type 0
AppendsFront before now bytes = (n : ℕ) × (n ≤ length bytes) × Appends before now (take n bytes)

-- no byte is left, where the stream tells
abbrev pub IsAtEnd : Option (List ℕ) → Type 0
IsAtEnd left = IfSome left (λ bytes. bytes ≡ [])

-- n bytes came, and stand in order at the buffer's front. None came only at the end.
pub record Reads (before now : Option (List ℕ)) (buffer : List ℕ) (n : ℕ) : Type 0 where
  pub within : n ≤ length buffer
  pub bytes : Gave before now (take n buffer)
  pub end : n ≡ 0 → IsAtEnd before

-- n bytes went, at least one, from the front of a piece.
pub record Writes (before now : Option (List ℕ)) (piece : List ℕ) (n : ℕ) : Type 0 where
  pub some : 0 < n
  pub within : n ≤ length piece
  pub bytes : Appends before now (take n piece)

-- The first n bytes that were left are gone, and no others.
abbrev pub Drops : Option (List ℕ) → Option (List ℕ) → ℕ → Type 0
Drops before now n = now ≡ option_map (drop n) before

-- At most so many bytes of those that were left are gone.
abbrev pub LosesWithin : Option (List ℕ) → Option (List ℕ) → ℕ → Type 0
LosesWithin before now most = (n : ℕ) × (n ≤ most) × Drops before now n

-- At most so many bytes came, none only at the end, and stand behind the old ones.
pub record Takes (before now : Option (List ℕ)) (old new : List ℕ) (most n : ℕ) : Type 0 where
  pub piece : List ℕ
  pub size : length piece ≡ n
  pub within : n ≤ most
  pub bytes : Gave before now piece
  pub end : n ≡ 0 → IsAtEnd before
  pub appended : new ≡ old ++ piece

-- the next call is one of those that fail
abbrev pub FailsNext : Schedule → Type 0
FailsNext schedule = Contains schedule.fails.items (next schedule.calls)

-- these calls are to fail, and there was none yet
abbrev pub fresh : Vec ℕ Global → Schedule
fresh fails = record { fails = fails; calls = 0; faults = 0 }

-- one more call
abbrev pub called : Schedule → Schedule
called schedule = record schedule { calls = next schedule.calls }

-- one more failure
abbrev pub failed : Schedule → Schedule
failed schedule = record schedule { faults = next schedule.faults }

-- after a call that failed or did not
abbrev pub after : Bool → Schedule → Schedule
after fails schedule = if fails then failed (called schedule) else called schedule

-- which calls of a source in memory fail, and how many there were
abbrev pub source_schedule : MemSource → Schedule
source_schedule source = source.schedule

-- which calls of a sink in memory fail, and how many there were
abbrev pub sink_schedule : MemSink → Schedule
sink_schedule sink = sink.schedule

-- what is left of a source in memory
abbrev pub source_left : MemSource → List ℕ
source_left source = drop source.at source.bytes.items

-- what a sink in memory has taken
abbrev pub sink_taken : MemSink → List ℕ
sink_taken sink = sink.bytes.items
