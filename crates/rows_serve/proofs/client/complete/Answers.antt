use Rattle.qc_event.specs.declared.event.Answer.TheVariants.{Nothing, Reply}
use Rattle.qc_event.specs.declared.event.Event.TheVariants as event
use Rattle.qc_event.specs.declared.event.How.TheVariants.{Commit}
use Rattle.qc_desk.specs.Refusing.{against_access, against_commit}
use Rattle.qc_desk.proofs.AskedTops.{entered_later, on_ok}
use Rattle.qc_desk.proofs.Seers.{older_trans}
use Rattle.rows_serve.proofs.First.{may_take, may_commit}
use Rattle.rows_serve.proofs.client.complete.Goals as goal

pub take_reply-requires-clause-own : goal.take_reply-requires-clause-own
take_reply-requires-clause-own g c = c.requires.put.own

pub take_reply-requires-clause-may : goal.take_reply-requires-clause-may
take_reply-requires-clause-may g c = may_take g.N.Store.table g.N.Store.base c.requires.over c.args.pass.now.seen c.args.pass.now.number c.args.request.now.ask c.args.tuple.now c.requires.put.asked_here c.requires.granted

pub end-requires-clause-may : goal.end-requires-clause-may
end-requires-clause-may g c =
    may_commit g.N.Store.table g.N.Store.base c.requires.over c.args.request.now.ask c.args.putter.now.manager c.args.putter.now.value c.args.tuple.now c.args.pass.now c.take_reply.new.pass c.requires.put c.in_ok-take_reply.ensures.ok c.known.ensures.legal

pub returns-clause-older : goal.returns-clause-older
returns-clause-older g c =
    let v = c.args.pass.now in
    let w = c.take_reply.new.pass in
    let access = c.args.request.now.ask.access in
    let manager = c.args.putter.now.manager in
    on_ok c.end.result _ _
    (λ entered. older_trans v.seen w.seen c.end.new.pass.seen
    (entered_later (against_access access) (event.End access (Commit (Reply c.args.tuple.now))) v w c.in_ok-take_reply.ensures.ok)
    (entered_later (against_commit manager) (event.End manager (Commit Nothing)) w c.end.new.pass entered))
    c.end.ensures.ok
