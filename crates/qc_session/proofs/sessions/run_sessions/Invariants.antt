-- The board is the one that was made.
use Rattle.qc_session.proofs.sessions.run_sessions.Given as goal

abbrev pub ghosts-run_over : goal.ghosts-run_over
ghosts-run_over g a = record { board = a.board.now.board; may = 65535 }
