use Rattle.rows_serve.proofs.Later.{all_later, knows, stands_now}
use Rattle.rows_serve.proofs.words.give_up.Goals as goal

pub returns-in-Ok-clause-knows : goal.returns-in-Ok-clause-knows
returns-in-Ok-clause-knows g c =
    let was = c.args.pass.now.seen in
    let now = c.abort.new.pass.seen in
    let seat = c.args.pass.now.number in
    let client = c.args.client.now in
    knows now seat c.plain-client.result client.before
    (all_later was now c.plain-client.result c.in-Ok.ensures.older (c.plain-client.ensures.stands was (stands_now was seat client c.requires.knows)))
    (c.plain-client.ensures.first now seat) (c.plain-client.ensures.put now seat)
    (all_later was now client.before c.in-Ok.ensures.older c.requires.knows.before)

pub returns-in-Err-clause-knows : goal.returns-in-Err-clause-knows
returns-in-Err-clause-knows g c = c.new.ensures.none c.abort.new.pass.seen c.args.pass.now.number
