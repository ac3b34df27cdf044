use Rattle.qc_history.proofs.index.Index.dead.Given as goal

abbrev pub ghosts-uncounted_dead : goal.ghosts-uncounted_dead
ghosts-uncounted_dead a = record { name = a.blank.name; parts = a.blank.parts }
