use Rattle.qc_desk.specs.Nothing.{no_table}
use Rattle.bench_desk.proofs.measure.measured.Given as goal

abbrev pub ghosts-measured_at : goal.ghosts-measured_at
ghosts-measured_at g a = record { desk = a.blank.room.shared.table_id; table = no_table; base = a.blank.base }
