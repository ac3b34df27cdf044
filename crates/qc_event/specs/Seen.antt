-- What a copy holds of a record, and which grant there is in an access's way.
use Rattle.std.specs.Prelude.{ℕ, ◌==◌, Bool, ◌&&◌, not, is_none, List, fold, filter, find, Option}
use Rattle.std.specs.Option.{option_map}
use Rattle.qc_config.specs.declared.tuple.Tuple.{Tuple}
use Rattle.qc_config.specs.declared.tuple.Op.{Op}
use Rattle.qc_config.specs.Tuple.{after}
use Rattle.qc_event.specs.declared.event.Grant.{Grant}
use Rattle.qc_event.specs.Base.{start_tuple}
use Rattle.qc_event.specs.History.{Past, Name, grants}
use Rattle.qc_event.specs.Dead.{dead}
use Rattle.qc_event.specs.Clear.{clear, conflict}

-- whether a grant is of a record and its access is not dead
abbrev pub is_live_at : Past → ℕ → Grant → Bool
is_live_at past rec g = (g.rec == rec) && is_none (dead past g.access)

-- a tuple changed by grants, in order; a read changes nothing
abbrev pub changed_by : Tuple → List Grant → Tuple
changed_by tuple given = fold (λ t (g : Grant). after t g.op) tuple given

-- what a copy holds of a record: the start tuple, changed in order by each grant there that is not dead
abbrev pub seen : List (List Tuple) → Past → ℕ → ℕ → Tuple
seen base past copy rec = changed_by (start_tuple base copy rec) (filter (is_live_at past rec) (grants past copy))

-- whether a grant is in the way of an access's operation on a record: they conflict, and the grant is
-- not clear for the access
abbrev pub is_in_way : Past → ℕ → Op → Name → Grant → Bool
is_in_way past rec op access g = (g.rec == rec) && conflict g.op op && not (clear past g.access access)

-- the access of the first grant at a copy that is in the way
abbrev pub holder : Past → ℕ → ℕ → Op → Name → Option Name
holder past copy rec op access = option_map (λ (g : Grant). g.access) (find (is_in_way past rec op access) (grants past copy))
