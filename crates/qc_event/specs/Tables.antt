-- What a table says of a run over it.
use Rattle.std.specs.Prelude.{ℕ, List, map, replicate}
use Rattle.qc_config.specs.Config.{Voting}
use Rattle.qc_config.specs.Val.{Datum}
use Rattle.qc_config.specs.declared.tuple.Tuple.{Tuple}
use Rattle.qc_event.specs.Base.{Setting}
use Rattle.qc_event.specs.declared.table.Row.{Row}
use Rattle.qc_event.specs.declared.table.Table.{Table}

-- each record's first configuration, which every manager knows
abbrev pub first_configs : Table → List Voting
first_configs table = map (λ (r : Row). r.config) table.records

-- the value with which each record starts
abbrev pub first_values : Table → List Datum
first_values table = map (λ (r : Row). r.start) table.records

-- the setting of a run over a table that starts from these tuples
abbrev pub setting_of : Table → List (List Tuple) → Setting
setting_of table base = record { firsts = first_configs table; base = base }

-- the tuple with which every copy starts a record: version 0, the start value, generation 0
abbrev pub first_tuple : Row → Tuple
first_tuple row = record { version = 0; value = row.start; generation = 0; config = row.config }

-- the tuples with which a table's copies start, where there was no run before
abbrev pub base_of : Table → List (List Tuple)
base_of table = replicate table.copies (map first_tuple table.records)
