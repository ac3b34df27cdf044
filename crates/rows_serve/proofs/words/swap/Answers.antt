use Rattle.rows_serve.proofs.Later.{knows, stands_now}
use Rattle.rows_serve.proofs.words.swap.Goals as goal

pub returns : goal.returns
returns c = λ past seat k.
    knows past seat c.plain-client.result c.plain-before.result (c.plain-client.ensures.stands past k.before) (c.plain-client.ensures.first past seat) (c.plain-client.ensures.put past seat)
    (c.plain-before.ensures.stands past (stands_now past seat c.args.client.now k))
