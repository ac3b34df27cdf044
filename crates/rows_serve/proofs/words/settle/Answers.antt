use Rattle.rows_serve.proofs.Later.{all_later, knows, stands_now}
use Rattle.rows_serve.proofs.words.settle.Goals as goal

pub returns-in_err-push-in-Ok-Some-clause-knows : goal.returns-in_err-push-in-Ok-Some-clause-knows
returns-in_err-push-in-Ok-Some-clause-knows g c =
    let was = c.args.pass.now.seen in
    let now = c.commit.new.pass.seen in
    let seat = c.args.pass.now.number in
    let client = c.args.client.now in
    knows now seat c.plain-client.result client.before
    (all_later was now c.plain-client.result c.in-Ok-Some.ensures.older (c.plain-client.ensures.stands was (stands_now was seat client c.requires.knows)))
    (c.plain-client.ensures.first now seat) (c.plain-client.ensures.put now seat)
    (all_later was now client.before c.in-Ok-Some.ensures.older c.requires.knows.before)

pub returns-in_ok-push-in-Ok-Some-clause-knows : goal.returns-in_ok-push-in-Ok-Some-clause-knows
returns-in_ok-push-in-Ok-Some-clause-knows g c =
    let was = c.args.pass.now.seen in
    let now = c.commit.new.pass.seen in
    let seat = c.args.pass.now.number in
    let client = c.args.client.now in
    knows now seat c.plain-client.result client.before
    (all_later was now c.plain-client.result c.in-Ok-Some.ensures.older (c.plain-client.ensures.stands was (stands_now was seat client c.requires.knows)))
    (c.plain-client.ensures.first now seat) (c.plain-client.ensures.put now seat)
    (all_later was now client.before c.in-Ok-Some.ensures.older c.requires.knows.before)

pub returns-in-Ok-None-clause-knows : goal.returns-in-Ok-None-clause-knows
returns-in-Ok-None-clause-knows g c =
    let was = c.args.pass.now.seen in
    let now = c.commit.new.pass.seen in
    let seat = c.args.pass.now.number in
    let client = c.args.client.now in
    knows now seat c.plain-client.result client.before
    (all_later was now c.plain-client.result c.in-Ok-None.ensures.older (c.plain-client.ensures.stands was (stands_now was seat client c.requires.knows)))
    (c.plain-client.ensures.first now seat) (c.plain-client.ensures.put now seat)
    (all_later was now client.before c.in-Ok-None.ensures.older c.requires.knows.before)

pub returns-in-Err-clause-knows : goal.returns-in-Err-clause-knows
returns-in-Err-clause-knows g c = c.new.ensures.none c.commit.new.pass.seen c.args.pass.now.number
