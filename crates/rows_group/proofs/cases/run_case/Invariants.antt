use Rattle.qc_desk.specs.Nothing.{no_table}
use Rattle.rows_group.proofs.cases.run_case.Given as goal

abbrev pub ghosts-case_at : goal.ghosts-case_at
ghosts-case_at g a = record { desk = a.blank.room.shared.table_id; table = no_table; base = a.blank.base }
