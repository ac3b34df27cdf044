use Rattle.rows_request.specs.OneCopy.{table}
use Rattle.rows_desk.proofs.scene.play_scene.Given as goal

abbrev pub ghosts-play_named : goal.ghosts-play_named
ghosts-play_named g a = record { desk = a.blank.room.shared.table_id; table = table; base = a.blank.base }
