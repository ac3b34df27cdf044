use Rattle.rows_request.specs.OneCopy.{table}
use Rattle.rows_desk.proofs.overtaken.run_overtaken.Given as goal

abbrev pub ghosts-overtaken_at : goal.ghosts-overtaken_at
ghosts-overtaken_at g a = record { desk = a.blank.room.shared.table_id; table = table; base = a.blank.base }
