use Rattle.qc_history.proofs.index.Index.at.Given as goal

abbrev pub ghosts-uncounted_node : goal.ghosts-uncounted_node
ghosts-uncounted_node a = record { name = a.blank.name; parts = a.blank.parts }
