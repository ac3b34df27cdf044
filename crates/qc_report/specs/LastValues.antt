-- The last values of records, by the versions of their tuples.
use Rattle.std.specs.Prelude.{ℕ, ◌≡◌, ◌<◌, Bool, true, nat_lt, List, [], ◌∷◌, ◌++◌, length, map, slice_index_or, option_to_list, Option, None, Some}
use Rattle.std.specs.List.{range_with_len}
use Rattle.qc_config.specs.Val.{Datum, Number}
use Rattle.qc_config.specs.declared.tuple.Tuple.{Tuple}
use Rattle.qc_event.specs.declared.event.Event.{Event}
use Rattle.qc_event.specs.History.{Past}
use Rattle.qc_event.specs.Manager.{Greatest, greater, greatest_among}
use Rattle.qc_refine.specs.Final.{final_value, put_for_good}

-- the values of so many records by the versions of their tuples
abbrev pub values_by_version : List (List Tuple) → Past → ℕ → List Datum
values_by_version base past records = map (final_value base past) (range_with_len 0 records)

-- the version and the value of a tuple
abbrev pub best : Tuple → Greatest
best t = record { version = t.version; value = t.value }

-- the greatest version among tuples and its value, of equals the first; nothing where there are no tuples
abbrev pub best_of : List Tuple → Option Greatest
best_of [] = None
best_of (first ∷ tuples) = Some (greatest_among (first ∷ tuples))

-- the value of the greatest version, and the number 0 where there is none
abbrev pub value_of : Option Greatest → Datum
value_of None = Number 0
value_of (Some b) = b.value

-- whether a tuple has a greater version than others' greatest
abbrev pub is_greater : Option Greatest → Tuple → Bool
is_greater None t = true
is_greater (Some b) t = nat_lt b.version t.version

-- others' greatest and one more tuple
abbrev pub raised : Option Greatest → Tuple → Option Greatest
raised None t = Some (best t)
raised (Some b) t = Some (greater b t)

-- for each record the greatest of its tuples
abbrev pub AreBest : (ℕ → List Tuple) → List (Option Greatest) → Type 0
AreBest tuples bests = (rec : ℕ) → rec < length bests → slice_index_or bests rec None ≡ best_of (tuples rec)

-- the tuples of each record, and the one that an event left for good
abbrev pub with_put : Past → Event → (ℕ → List Tuple) → ℕ → List Tuple
with_put past event tuples rec = tuples rec ++ option_to_list (put_for_good past rec event)
