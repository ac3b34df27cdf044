use Rattle.qc_desk.specs.Nothing.{no_table}
use Rattle.rows_group.proofs.threads.run_threads.Given as goal

abbrev pub ghosts-threads_at : goal.ghosts-threads_at
ghosts-threads_at g a = record { desk = a.blank.room.shared.table_id; table = no_table; base = a.blank.base }
