-- What a copy holds of each record.
use Rattle.std.specs.Prelude.{ℕ, ◌==◌, Bool, ◌&&◌, is_none, List, length, map, filter, slice_index_or}
use Rattle.std.specs.List.{range_with_len}
use Rattle.qc_config.specs.declared.tuple.Tuple.{Tuple}
use Rattle.qc_event.specs.declared.event.Grant.{Grant}
use Rattle.qc_event.specs.Base.{no_tuple}
use Rattle.qc_event.specs.Dead.{dead}
use Rattle.qc_event.specs.History.{Past, Name, grants}
use Rattle.qc_event.specs.Seen.{changed_by}

-- the tuple of a record in a row of tuples
abbrev pub from_row : List Tuple → ℕ → Tuple
from_row row rec = slice_index_or row rec no_tuple

-- whether a grant is of a record, and its access passes a test
abbrev pub is_of : (Name → Bool) → ℕ → Grant → Bool
is_of keep rec g = (g.rec == rec) && keep g.access

-- the tuple of a record, changed in order by the grants of the record whose accesses pass
abbrev pub changed_tuple : (Name → Bool) → ℕ → Tuple → List Grant → Tuple
changed_tuple keep rec tuple given = changed_by tuple (filter (is_of keep rec) given)

-- such tuples of so many records, from their start tuples
abbrev pub changed_row : (Name → Bool) → ℕ → (ℕ → Tuple) → List Grant → List Tuple
changed_row keep records start given = map (λ rec. changed_tuple keep rec (start rec) given) (range_with_len 0 records)

-- whether an access is not dead
abbrev pub is_alive : Past → Name → Bool
is_alive past n = is_none (dead past n)

-- what a copy holds that started with these tuples: each changed by its grants that are not dead
abbrev pub held_row : List Tuple → Past → ℕ → List Tuple
held_row start past copy = changed_row (is_alive past) (length start) (from_row start) (grants past copy)
