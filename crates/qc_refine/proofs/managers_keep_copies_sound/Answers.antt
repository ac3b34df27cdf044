use Rattle.qc_refine.proofs.Copies.Writes.{read_answers, read_leaves, write_carries}
use Rattle.qc_refine.proofs.Copies.Moves.{move_carries}
use Rattle.qc_refine.proofs.managers_keep_copies_sound.Goals as goal

pub returns-clause-read : goal.returns-clause-read
returns-clause-read c = read_answers

pub returns-clause-read_leaves : goal.returns-clause-read_leaves
returns-clause-read_leaves c = read_leaves

pub returns-clause-write : goal.returns-clause-write
returns-clause-write c = write_carries

pub returns-clause-reconfigure : goal.returns-clause-reconfigure
returns-clause-reconfigure c = move_carries
