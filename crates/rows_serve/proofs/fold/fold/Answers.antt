use Rattle.std.proofs.Common.{ap, subst}
use Rattle.qc_event.specs.Tables.{setting_of}
use Rattle.qc_desk.specs.declared.view.View.{View}
use Rattle.rows_serve.specs.Requests.{Knows}
use Rattle.rows_serve.proofs.Later.{client_shown, knows_more, knows_shown, knows_since}
use Rattle.rows_serve.proofs.fold.fold.Goals as goal

pub returns-then-not-ended-clause-knows : goal.returns-then-not-ended-clause-knows
returns-then-not-ended-clause-knows g c =
    let v = c.args.pass.now in
    let w = c.has_ended-ended.new.pass in
    knows_since (setting_of g.N.Store.table g.N.Store.base) v.seen w.seen v.number c.args.client.now c.known.ensures.legal (c.has_ended-ended.ensures.looked.2 c.requires.client.0) c.requires.knows

pub returns-clause-knows : goal.returns-clause-knows
returns-clause-knows g c =
    let setting = setting_of g.N.Store.table g.N.Store.base in
    let v = c.args.pass.now in
    let w = c.has_ended-ended.new.pass in
    let x = c.checkpoint-answer.new.pass in
    let client = c.args.client.now in
    let shown = c.has_ended-ended.ensures.looked in
    subst (λ n. Knows x.seen n client) (ap (λ (u : View). u.number) shown.1)
    (knows_more setting w x client (client_shown v w c.requires.client shown) c.known.ensures c.known-2.ensures c.checkpoint-answer.ensures.sees
    (knows_shown setting v w client c.requires.client c.known.ensures.legal shown c.requires.knows))
