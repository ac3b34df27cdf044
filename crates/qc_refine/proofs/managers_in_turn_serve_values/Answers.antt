use Rattle.qc_refine.proofs.Copies.InTurn.{reads_answer, left_sound}
use Rattle.qc_refine.proofs.managers_in_turn_serve_values.Goals as goal

pub returns-clause-reads : goal.returns-clause-reads
returns-clause-reads c = reads_answer

pub returns-clause-sound : goal.returns-clause-sound
returns-clause-sound c = left_sound
