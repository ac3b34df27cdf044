use Rattle.qc_desk.specs.Nothing.{no_table}
use Rattle.rows_ledger.proofs.desk.over_desk.Given as goal

abbrev pub ghosts-run_named : goal.ghosts-run_named
ghosts-run_named g a = record { desk = a.blank.room.shared.table_id; table = no_table; base = a.blank.base }
