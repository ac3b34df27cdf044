use Rattle.qc_event.specs.Tables.{setting_of}
use Rattle.qc_event.specs.declared.event.Cause.TheVariants as cause
use Rattle.qc_event.specs.declared.event.Event.TheVariants as event
use Rattle.qc_event.specs.declared.event.How.TheVariants.{Abort}
use Rattle.qc_desk.specs.Refusing.{against_abort}
use Rattle.qc_desk.proofs.AskedTops.{may_ask_abort, entered_later, on_ok}
use Rattle.rows_serve.proofs.client.abort.Goals as goal

pub abort-requires-clause-licensed : goal.abort-requires-clause-licensed
abort-requires-clause-licensed g c = may_ask_abort (setting_of g.N.Store.table g.N.Store.base) c.args.pass.now.seen c.args.pass.now.number c.args.request.now.user c.requires.stands.begun

pub returns-clause-older : goal.returns-clause-older
returns-clause-older g c =
    let top = c.args.request.now.user in
    on_ok c.abort.result _ _ (entered_later (against_abort top) (event.End top (Abort (cause.Asked top))) c.args.pass.now c.abort.new.pass) c.abort.ensures.ok
