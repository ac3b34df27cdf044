use Rattle.rows_request.specs.OneCopy.{table}
use Rattle.rows_mail.proofs.mails.play.Given as goal

abbrev pub ghosts-play_desk : goal.ghosts-play_desk
ghosts-play_desk g a = record { desk = a.blank.room.shared.table_id; table = table; base = a.blank.base }
