use Rattle.qc_history.proofs.index.Index.outcome.Given as goal

abbrev pub ghosts-uncounted_outcome : goal.ghosts-uncounted_outcome
ghosts-uncounted_outcome a = record { name = a.blank.name; parts = a.blank.parts }
