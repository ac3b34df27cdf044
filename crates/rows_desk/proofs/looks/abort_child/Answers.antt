use Rattle.qc_event.specs.Tables.{setting_of}
use Rattle.qc_event.specs.declared.event.Cause.TheVariants as cause
use Rattle.qc_event.specs.declared.event.Event.TheVariants as event
use Rattle.qc_event.specs.declared.event.How.TheVariants.{Abort}
use Rattle.qc_desk.specs.Refusing.{against_abort}
use Rattle.qc_desk.proofs.AskedTops.{may_ask_abort, entered_later, on_ok}
use Rattle.rows_desk.proofs.Children.{still_top}
use Rattle.rows_desk.proofs.looks.abort_child.Goals as goal

pub abort-requires-clause-licensed : goal.abort-requires-clause-licensed
abort-requires-clause-licensed g c = may_ask_abort (setting_of g.N.Store.table g.N.Store.base) c.args.pass.now.seen c.args.pass.now.number c.args.child.now c.requires.child

pub returns-clause-top : goal.returns-clause-top
returns-clause-top g c =
    let child = c.args.child.now in
    on_ok c.abort.result _ _ (λ entered. still_top c.args.pass.now.seen c.abort.new.pass.seen c.args.top.now
    (entered_later (against_abort child) (event.End child (Abort (cause.Asked child))) c.args.pass.now c.abort.new.pass entered) c.requires.top)
    c.abort.ensures.ok
