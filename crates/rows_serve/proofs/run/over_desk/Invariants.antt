use Rattle.rows_serve.specs.TwoRecords.{table}
use Rattle.rows_serve.proofs.run.over_desk.Given as goal

abbrev pub ghosts-run_named : goal.ghosts-run_named
ghosts-run_named g a = record { desk = a.blank.room.shared.table_id; table = table; base = a.blank.base }
