use Rattle.rows_desk.proofs.FirstCopy.{locks_start}
use Rattle.rows_desk.proofs.scene.play_named.Goals as goal

pub play-requires-clause-follows : goal.play-requires-clause-follows
play-requires-clause-follows g c =
    locks_start c.name-desk.result.1 c.split-ledger.new.pass c.split-copy.new.pass c.split-ledger.result c.split-copy.result c.args.locks
    c.name-desk.ensures.pass c.split-ledger.ensures.split c.split-copy.ensures.split c.requires.locks
