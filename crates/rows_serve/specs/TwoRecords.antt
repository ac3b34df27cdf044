-- What the rows run over: two records at one copy, which has the one vote.
use Rattle.std.specs.Prelude.{◌≡◌, List, [], ◌∷◌}
use Rattle.qc_config.specs.Val.{Number}
use Rattle.qc_config.specs.Config.{Voting}
use Rattle.qc_config.specs.declared.tuple.Tuple.{Tuple}
use Rattle.qc_event.specs.declared.table.Row.{Row}
use Rattle.qc_event.specs.declared.table.Table.{Table}

abbrev pub config : Voting
config = record { votes = 1 ∷ []; read = 1; write = 1 }

-- a record that is so configured
abbrev pub row : Row
row = record { name = []; start = Number 0; config = config }

abbrev pub table : Table
table = record { copies = 1; records = row ∷ row ∷ [] }

-- The copy's tuples as it starts: of two records, each so configured.
pub record IsRow (tuples : List Tuple) : Type 0 where
  pub x : Tuple
  pub y : Tuple
  pub both : tuples ≡ x ∷ y ∷ []
  pub x_config : x.config ≡ config
  pub y_config : y.config ≡ config

-- It runs over that table, and one copy with such tuples.
pub record IsOver (over : Table) (base : List (List Tuple)) : Type 0 where
  pub same_table : over ≡ table
  pub tuples : List Tuple
  pub one_copy : base ≡ tuples ∷ []
  pub is_row : IsRow tuples
