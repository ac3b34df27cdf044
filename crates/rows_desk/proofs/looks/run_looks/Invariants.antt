use Rattle.qc_desk.specs.Nothing.{no_table}
use Rattle.rows_desk.proofs.looks.run_looks.Given as goal

abbrev pub ghosts-told_at : goal.ghosts-told_at
ghosts-told_at g a = record { desk = a.blank.room.shared.table_id; table = no_table; base = a.blank.base }
