use Rattle.qc_desk.specs.Nothing.{no_table}
use Rattle.rows_desk.proofs.refusals.run_refusals.Given as goal

abbrev pub ghosts-refused_at : goal.ghosts-refused_at
ghosts-refused_at g a = record { desk = a.blank.room.shared.table_id; table = no_table; base = a.blank.base }
