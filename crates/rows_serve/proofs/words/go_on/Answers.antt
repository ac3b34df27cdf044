use Rattle.std.proofs.Common.{ℕ, sym, subst}
use Rattle.std.specs.Prelude.{Some}
use Rattle.rows_serve.specs.Requests.{Knows}
use Rattle.rows_serve.proofs.Later.{all_later, knows}
use Rattle.rows_serve.proofs.words.go_on.Goals as goal

pub ask-requires-clause-knows : goal.ask-requires-clause-knows
ask-requires-clause-knows g c =
    let now = c.put.new.pass.seen in
    let before = c.args.client.now.before in
    subst (λ (n : ℕ). Knows now n (record { now = Some c.in-Ok.next; before = before })) (sym c.put.ensures.same.1)
    (knows now c.args.pass.now.number (Some c.in-Ok.next) before c.in-Ok.ensures.stands c.in-Ok.ensures.first c.in-Ok.ensures.put
    (all_later c.args.pass.now.seen now before c.in-Ok.ensures.older c.requires.knows.before))

pub returns-in-Err-clause-knows : goal.returns-in-Err-clause-knows
returns-in-Err-clause-knows g c = c.new.ensures.none c.put.new.pass.seen c.args.pass.now.number
