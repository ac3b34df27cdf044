use Rattle.std.specs.Prelude.{Some}
use Rattle.rows_serve.proofs.Later.{all_later, knows}
use Rattle.rows_serve.proofs.words.ask.Goals as goal

pub returns-clause-knows : goal.returns-clause-knows
returns-clause-knows g c =
    let now = c.serve-answer.new.pass.seen in
    knows now c.args.pass.now.number (Some c.serve-answer.new.request) c.args.client.now.before c.serve-answer.ensures.stands c.serve-answer.ensures.first c.serve-answer.ensures.put
    (all_later c.args.pass.now.seen now c.args.client.now.before c.serve-answer.ensures.older c.requires.knows.before)
