-- Between two syncs: which bytes a crash leaves as they were, and how many there may be.
use Rattle.std.specs.Prelude.{◌≡◌, ◌<◌, ◌≤◌, ◌⊎◌, ℕ, ◌+◌, min, max, List, [], ◌∷◌, length, slice_index}
use Rattle.qc_disk.specs.Replay.{Act, nothing, wrote, cut_to, synced, does}

-- What was synced last, what was done since, and the least and the greatest length since.
pub record Extent : Type 0 where
  pub synced : List ℕ
  pub since : List Act
  pub least : ℕ
  pub greatest : ℕ

-- just after a sync of these bytes
abbrev pub just_synced : List ℕ → Extent
just_synced now = record { synced = now; since = []; least = length now; greatest = length now }

-- after one more act, of a disk with a content
abbrev pub extended : Act → List ℕ → Extent → Extent
extended nothing now e = e
extended (wrote at bytes) now e = record { synced = e.synced; since = wrote at bytes ∷ e.since; least = e.least; greatest = max e.greatest (at + length bytes) }
extended (cut_to to) now e = record { synced = e.synced; since = cut_to to ∷ e.since; least = min e.least to; greatest = e.greatest }
extended synced now e = just_synced now

-- after these acts, the oldest first
abbrev pub extended_by : List Act → List ℕ → Extent → Extent
extended_by [] now e = e
extended_by (act ∷ acts) now e = extended_by acts (does act now) (extended act now e)

-- of a disk that was made with these bytes, after these acts
abbrev pub extent : List ℕ → List Act → Extent
extent first acts = extended_by acts first (just_synced first)

-- a place lies outside all ranges that were written or cut
abbrev pub IsSpared : ℕ → List Act → Type 0
IsSpared i [] = Unit {0}
IsSpared i (nothing ∷ acts) = IsSpared i acts
IsSpared i (wrote at bytes ∷ acts) = ((i < at) ⊎ (at + length bytes ≤ i)) × IsSpared i acts
IsSpared i (cut_to to ∷ acts) = (i < to) × IsSpared i acts
IsSpared i (synced ∷ acts) = IsSpared i acts

-- The bytes that were synced last stand where nothing was written or cut since, and the length is one between the least and the greatest.
pub record LeftBetween (e : Extent) (c : List ℕ) : Type 0 where
  pub spared : (i : ℕ) → IsSpared i e.since → i < length e.synced → (i < length c) × (slice_index c i ≡ slice_index e.synced i)
  pub no_shorter : e.least ≤ length c
  pub no_longer : length c ≤ e.greatest
