use Rattle.std.proofs.Common.{ℕ, sym, subst}
use Rattle.std.specs.Prelude.{Some}
use Rattle.rows_serve.specs.Requests.{Knows}
use Rattle.rows_serve.proofs.Later.{all_later, knows, stands_now}
use Rattle.rows_serve.proofs.words.begin_below.Goals as goal

pub ask-requires-clause-knows : goal.ask-requires-clause-knows
ask-requires-clause-knows g c =
    let was = c.args.pass.now.seen in
    let now = c.set_child.new.pass.seen in
    let seat = c.args.pass.now.number in
    let before = c.plain-before.result in
    subst (λ (n : ℕ). Knows now n (record { now = Some c.in-Ok.next; before = before })) (sym c.set_child.ensures.same.1)
    (knows now seat (Some c.in-Ok.next) before c.in-Ok.ensures.stands c.in-Ok.ensures.first c.in-Ok.ensures.put
    (all_later was now before c.in-Ok.ensures.older (c.plain-before.ensures.stands was (stands_now was seat c.args.client.now c.requires.knows))))

pub returns-in-Err-clause-knows : goal.returns-in-Err-clause-knows
returns-in-Err-clause-knows g c = c.new.ensures.none c.set_child.new.pass.seen c.args.pass.now.number
