-- What logged tops keep of grants, and the tuples that these restore.
use Rattle.std.specs.Prelude.{ℕ, ◌==◌, Bool, ◌&&◌, not, List, map, filter}
use Rattle.std.specs.List.{list_any, range_with_len}
use Rattle.qc_names.specs.Name as name
use Rattle.qc_codec.specs.declared.past.Logged.{Logged}
use Rattle.qc_config.specs.declared.tuple.Tuple.{Tuple}
use Rattle.qc_event.specs.declared.event.Grant.{Grant}
use Rattle.qc_event.specs.History.{Name}
use Rattle.qc_event.specs.Seen.{changed_by}

-- whether a logged top is above an access, and none of those listed is
abbrev pub keeps : Name → Logged → Bool
keeps access l = name.is_ancestor l.top access && not (list_any (λ a. name.is_ancestor a access) l.aborted)

-- whether what an access did is kept: its top was logged, with no ancestor of the access in the list
abbrev pub is_kept : List Logged → Name → Bool
is_kept tops access = list_any (keeps access) tops

-- whether a grant is of a record, and kept
abbrev pub is_kept_at : List Logged → ℕ → Grant → Bool
is_kept_at tops rec g = (g.rec == rec) && is_kept tops g.access

-- the tuple of a record that grants restore: the start tuple, changed in order by each that is kept
abbrev pub restored_tuple : List Logged → ℕ → Tuple → List Grant → Tuple
restored_tuple tops rec tuple given = changed_by tuple (filter (is_kept_at tops rec) given)

-- the tuples of a copy that grants restore, from its start tuples by record
abbrev pub restored_row : List Logged → ℕ → (ℕ → Tuple) → List Grant → List Tuple
restored_row tops records start given = map (λ rec. restored_tuple tops rec (start rec) given) (range_with_len 0 records)
