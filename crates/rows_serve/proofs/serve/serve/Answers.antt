use Rattle.std.proofs.Common.{sym, subst}
use Rattle.std.specs.Prelude.{IfSome}
use Rattle.qc_event.specs.Grants.{grant_with}
use Rattle.qc_event.specs.declared.event.Ask.{Ask}
use Rattle.qc_event.specs.Tables.{setting_of}
use Rattle.qc_desk.specs.Answers.{IsGranted}
use Rattle.qc_site.specs.Calls.{AnswerRests, site_state}
use Rattle.rows_serve.specs.Requests.{IsFirst, IsPut}
use Rattle.rows_serve.proofs.Later.{stands_later, of_others, first_of_since, put_of_since}
use Rattle.rows_serve.proofs.serve.serve.Goals as goal

pub returns-in-Ok-clause-stands : goal.returns-in-Ok-clause-stands
returns-in-Ok-clause-stands g c =
    let now = c.serve-served.new.seer.seen in
    c.note.ensures.stands now (stands_later c.args.pass.now.seen now c.args.request.now c.serve-served.ensures.seer.older c.requires.stands)
    (λ tuple is. subst (λ p. IsGranted 0 p (grant_with c.args.request.now.ask tuple)) (sym c.in-Ok.ensures.served.shown) (subst (AnswerRests 0 c.args.request.now.ask (site_state c.serve-served.new.self)) is c.in-Ok.ensures.served.rests).1)

pub returns-in-Ok-clause-first : goal.returns-in-Ok-clause-first
returns-in-Ok-clause-first g c =
    let v = c.args.pass.now in
    let w = c.serve-served.new.seer in
    let first = first_of_since (setting_of g.N.Store.table g.N.Store.base) v.seen w.seen v.number c.args.request.now.ask c.known-2.ensures.legal
    (of_others v w c.requires.client c.known.ensures.mine c.known-2.ensures.mine c.serve-served.ensures.seer) c.args.request.now.writer c.requires.first in
    subst (λ (ask : Ask). IfSome c.note.new.request.writer (λ m. IsFirst w.seen v.number ask m.manager m.value)) (sym c.note.ensures.ask)
    (subst (λ o. IfSome o (λ m. IsFirst w.seen v.number c.args.request.now.ask m.manager m.value)) (sym c.note.ensures.writer) first)

pub returns-in-Ok-clause-put : goal.returns-in-Ok-clause-put
returns-in-Ok-clause-put g c =
    let v = c.args.pass.now in
    let w = c.serve-served.new.seer in
    let put = put_of_since (setting_of g.N.Store.table g.N.Store.base) v.seen w.seen v.number c.args.request.now.ask c.known-2.ensures.legal
    (of_others v w c.requires.client c.known.ensures.mine c.known-2.ensures.mine c.serve-served.ensures.seer) c.args.request.now.putter c.requires.put in
    subst (λ (ask : Ask). IfSome c.note.new.request.putter (λ m. IsPut w.seen v.number ask m.manager m.value)) (sym c.note.ensures.ask)
    (subst (λ o. IfSome o (λ m. IsPut w.seen v.number c.args.request.now.ask m.manager m.value)) (sym c.note.ensures.putter) put)

pub returns-in-Err-clause-stands : goal.returns-in-Err-clause-stands
returns-in-Err-clause-stands g c = stands_later c.args.pass.now.seen c.serve-served.new.seer.seen c.args.request.now c.serve-served.ensures.seer.older c.requires.stands

pub returns-in-Err-clause-first : goal.returns-in-Err-clause-first
returns-in-Err-clause-first g c =
    let v = c.args.pass.now in
    let w = c.serve-served.new.seer in
    first_of_since (setting_of g.N.Store.table g.N.Store.base) v.seen w.seen v.number c.args.request.now.ask c.known-2.ensures.legal
    (of_others v w c.requires.client c.known.ensures.mine c.known-2.ensures.mine c.serve-served.ensures.seer) c.args.request.now.writer c.requires.first

pub returns-in-Err-clause-put : goal.returns-in-Err-clause-put
returns-in-Err-clause-put g c =
    let v = c.args.pass.now in
    let w = c.serve-served.new.seer in
    put_of_since (setting_of g.N.Store.table g.N.Store.base) v.seen w.seen v.number c.args.request.now.ask c.known-2.ensures.legal
    (of_others v w c.requires.client c.known.ensures.mine c.known-2.ensures.mine c.serve-served.ensures.seer) c.args.request.now.putter c.requires.put
