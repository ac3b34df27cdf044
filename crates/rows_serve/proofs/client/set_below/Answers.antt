use Rattle.std.specs.Prelude.{None, Some}
use Rattle.qc_event.specs.Tables.{setting_of}
use Rattle.qc_desk.proofs.Begun.{user_nonroot}
use Rattle.rows_serve.proofs.First.{manager_stands, access_stands, own_request, set_client, set_later, set_stands, set_first}
use Rattle.rows_serve.proofs.client.set_below.Goals as goal

pub start-requires-clause-stands : goal.start-requires-clause-stands
start-requires-clause-stands g c = manager_stands g.N.Store.table g.N.Store.base c.requires.over c.args.rec c.args.value c.args.user.now c.args.pass.now c.requires.within c.requires.user

pub start-requires-2-clause-stands : goal.start-requires-2-clause-stands
start-requires-2-clause-stands g c =
    access_stands g.N.Store.table g.N.Store.base c.requires.over c.args.rec c.args.value c.args.user.now c.in_ok-manager.manager c.args.pass.now c.start.new.pass c.in_ok-manager.ensures.ok c.known-2.ensures.legal
    (user_nonroot (setting_of g.N.Store.table g.N.Store.base) c.args.pass.now.seen c.args.user.now c.known.ensures.legal c.requires.user)

pub ask-requires-clause-own : goal.ask-requires-clause-own
ask-requires-clause-own g c =
    own_request g.N.Store.table g.N.Store.base c.requires.over c.args.rec c.args.value c.args.user.now c.in_ok-manager.manager c.args.pass.now c.start.new.pass c.in_ok-manager.ensures.ok c.known-2.ensures.legal
    (user_nonroot (setting_of g.N.Store.table g.N.Store.base) c.args.pass.now.seen c.args.user.now c.known.ensures.legal c.requires.user)
    c.in_ok-access.access c.start-2.new.pass c.in_ok-access.ensures.ok c.known-3.ensures.legal
    (set_client g.N.Store.table g.N.Store.base c.requires.over c.args.rec c.args.value c.args.user.now c.in_ok-manager.manager c.in_ok-access.access c.args.pass.now c.start.new.pass c.start-2.new.pass c.in_ok-manager.ensures.ok c.in_ok-access.ensures.ok c.requires.client)
    c.requires.within

pub returns-clause-older : goal.returns-clause-older
returns-clause-older g c =
    set_later g.N.Store.table g.N.Store.base c.requires.over c.args.rec c.args.value c.args.user.now c.in_ok-manager.manager c.in_ok-access.access c.args.pass.now c.start.new.pass c.start-2.new.pass c.in_ok-manager.ensures.ok c.in_ok-access.ensures.ok c.ask.new.pass c.in_ok-ask.ensures.ok

pub returns-clause-stands : goal.returns-clause-stands
returns-clause-stands g c =
    set_stands g.N.Store.table g.N.Store.base c.requires.over c.args.rec c.args.value c.args.user.now c.in_ok-manager.manager c.in_ok-access.access c.args.pass.now c.start.new.pass c.start-2.new.pass c.in_ok-manager.ensures.ok c.in_ok-access.ensures.ok c.ask.new.pass c.in_ok-ask.ensures.ok
    (Some (record { manager = c.in_ok-manager.manager; value = c.args.value })) None c.requires.user c.known-4.ensures.legal

pub returns-clause-first : goal.returns-clause-first
returns-clause-first g c =
    set_first g.N.Store.table g.N.Store.base c.requires.over c.args.rec c.args.value c.args.user.now c.in_ok-manager.manager c.in_ok-access.access c.args.pass.now c.start.new.pass c.start-2.new.pass c.in_ok-manager.ensures.ok c.in_ok-access.ensures.ok c.ask.new.pass c.in_ok-ask.ensures.ok
    c.requires.client c.requires.within (user_nonroot (setting_of g.N.Store.table g.N.Store.base) c.args.pass.now.seen c.args.user.now c.known.ensures.legal c.requires.user) c.known-2.ensures.legal c.known-3.ensures.legal c.known-4.ensures.legal
