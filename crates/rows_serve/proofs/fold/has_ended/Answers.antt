use Rattle.rows_serve.proofs.Ended.{if_settled}
use Rattle.rows_serve.proofs.fold.has_ended.Goals as goal

pub returns-clause-ended : goal.returns-clause-ended
returns-clause-ended g c = if_settled c.settled.new.pass.seen c.settled.result c.settled.ensures.settled
