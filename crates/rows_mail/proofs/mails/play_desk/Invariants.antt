use Rattle.std.proofs.Common.{map, get_or}
use Rattle.qc_lane.specs.Ends.{no_queue, queue_id}
use Rattle.rows_mail.proofs.mails.play_desk.Given as goal

abbrev pub ghosts-play_named : goal.ghosts-play_named
ghosts-play_named g a = record { copies = 1; sessions = 1; lanes = λ copy. get_or (map (λ o. queue_id o.queue) a.unnamed.opened.items) copy no_queue }
