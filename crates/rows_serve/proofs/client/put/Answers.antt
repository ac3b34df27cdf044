use Rattle.std.specs.Prelude.{Some}
use Rattle.rows_serve.proofs.First.{may_take, next_stands, put_client, next_request, put_later, put_stands, is_put}
use Rattle.rows_serve.proofs.client.put.Goals as goal

pub take_reply-requires-clause-own : goal.take_reply-requires-clause-own
take_reply-requires-clause-own g c = c.requires.first.own

pub take_reply-requires-clause-may : goal.take_reply-requires-clause-may
take_reply-requires-clause-may g c =
    may_take g.N.Store.table g.N.Store.base c.requires.over c.args.pass.now.seen c.args.pass.now.number c.args.request.now.ask c.args.tuple.now c.requires.first.asked_here c.requires.granted

pub start-requires-clause-stands : goal.start-requires-clause-stands
start-requires-clause-stands g c =
    next_stands g.N.Store.table g.N.Store.base c.requires.over c.args.request.now.ask c.args.writer.now.manager c.args.writer.now.value c.args.tuple.now c.args.pass.now c.take_reply.new.pass c.requires.first c.in_ok-take_reply.ensures.ok c.known.ensures.legal

pub ask-requires-clause-own : goal.ask-requires-clause-own
ask-requires-clause-own g c =
    next_request g.N.Store.table g.N.Store.base c.requires.over c.args.request.now.ask c.args.writer.now.manager c.args.writer.now.value c.args.tuple.now c.args.pass.now c.take_reply.new.pass c.requires.first c.in_ok-take_reply.ensures.ok c.known.ensures.legal
    c.in_ok-access.access c.start.new.pass c.in_ok-access.ensures.ok c.known-2.ensures.legal
    (put_client g.N.Store.table g.N.Store.base c.requires.over c.args.request.now.ask c.args.writer.now.manager c.args.writer.now.value c.args.tuple.now c.args.pass.now c.take_reply.new.pass c.requires.first c.in_ok-take_reply.ensures.ok c.known.ensures.legal
    c.in_ok-access.access c.start.new.pass c.in_ok-access.ensures.ok c.requires.client)
    c.requires.next

pub returns-clause-older : goal.returns-clause-older
returns-clause-older g c =
    put_later g.N.Store.table g.N.Store.base c.requires.over c.args.request.now.ask c.args.writer.now.manager c.args.writer.now.value c.args.tuple.now c.args.pass.now c.take_reply.new.pass c.requires.first c.in_ok-take_reply.ensures.ok c.known.ensures.legal
    c.in_ok-access.access c.start.new.pass c.in_ok-access.ensures.ok c.ask.new.pass c.in_ok-ask.ensures.ok

pub returns-clause-stands : goal.returns-clause-stands
returns-clause-stands g c =
    put_stands g.N.Store.table g.N.Store.base c.requires.over c.args.request.now.ask c.args.writer.now.manager c.args.writer.now.value c.args.tuple.now c.args.pass.now c.take_reply.new.pass c.requires.first c.in_ok-take_reply.ensures.ok c.known.ensures.legal
    c.in_ok-access.access c.start.new.pass c.in_ok-access.ensures.ok c.ask.new.pass c.in_ok-ask.ensures.ok
    c.args.request.now.user (Some c.args.writer.now) c.requires.stands.begun c.known-3.ensures.legal

pub returns-clause-put : goal.returns-clause-put
returns-clause-put g c =
    is_put g.N.Store.table g.N.Store.base c.requires.over c.args.request.now.ask c.args.writer.now.manager c.args.writer.now.value c.args.tuple.now c.args.pass.now c.take_reply.new.pass c.requires.first c.in_ok-take_reply.ensures.ok c.known.ensures.legal
    c.in_ok-access.access c.start.new.pass c.in_ok-access.ensures.ok c.ask.new.pass c.in_ok-ask.ensures.ok
    c.known-2.ensures.legal c.known-3.ensures.legal
    (put_client g.N.Store.table g.N.Store.base c.requires.over c.args.request.now.ask c.args.writer.now.manager c.args.writer.now.value c.args.tuple.now c.args.pass.now c.take_reply.new.pass c.requires.first c.in_ok-take_reply.ensures.ok c.known.ensures.legal
    c.in_ok-access.access c.start.new.pass c.in_ok-access.ensures.ok c.requires.client)
    c.requires.next
