use Rattle.rows_desk.proofs.FirstCopy.{locks_start}
use Rattle.rows_desk.proofs.compared.compared_at.Goals as goal

pub grant_three-requires-clause-follows : goal.grant_three-requires-clause-follows
grant_three-requires-clause-follows g c =
    locks_start c.name-desk.result.1 c.split-ledger.new.pass c.split-copy.new.pass c.split-ledger.result c.split-copy.result c.args.locks
    c.name-desk.ensures.pass c.split-ledger.ensures.split c.split-copy.ensures.split c.requires.locks
