use Rattle.qc_history.proofs.index.Index.place.Given as goal

abbrev pub ghosts-uncounted_find : goal.ghosts-uncounted_find
ghosts-uncounted_find a = record { name = a.blank.name; parts = a.blank.parts }
