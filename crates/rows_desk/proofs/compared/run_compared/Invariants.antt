use Rattle.rows_request.specs.OneCopy.{table}
use Rattle.rows_desk.proofs.compared.run_compared.Given as goal

abbrev pub ghosts-compared_at : goal.ghosts-compared_at
ghosts-compared_at g a = record { desk = a.blank.room.shared.table_id; table = table; base = a.blank.base }
