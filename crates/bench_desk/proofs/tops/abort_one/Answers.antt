use Rattle.qc_event.specs.Tables.{setting_of}
use Rattle.qc_event.specs.declared.event.Cause.TheVariants as cause
use Rattle.qc_event.specs.declared.event.Event.TheVariants as event
use Rattle.qc_event.specs.declared.event.How.TheVariants.{Abort}
use Rattle.qc_desk.specs.Refusing.{against_abort}
use Rattle.qc_desk.proofs.AskedTops.{may_ask_abort, entered_later, on_ok}
use Rattle.bench_desk.proofs.More.{still_started, one_of_them}
use Rattle.bench_desk.proofs.tops.abort_one.Goals as goal

pub abort-requires-clause-licensed : goal.abort-requires-clause-licensed
abort-requires-clause-licensed g c =
    let top = c.in-Some.top.now in
    may_ask_abort (setting_of g.N.Store.table g.N.Store.base) c.args.pass.now.seen c.args.pass.now.number top (one_of_them c.args.pass.now.seen c.args.tops.now c.args.at top c.requires.started c.in-Some.ensures.lookup.3.0 (c.in-Some.ensures.lookup.3.1 top))

pub returns-in-Some-clause-started : goal.returns-in-Some-clause-started
returns-in-Some-clause-started g c =
    let top = c.in-Some.top.now in
    on_ok c.abort.result _ _ (λ entered. still_started c.args.pass.now.seen c.abort.new.pass.seen c.args.tops.now
    (entered_later (against_abort top) (event.End top (Abort (cause.Asked top))) c.args.pass.now c.abort.new.pass entered) c.requires.started)
    c.abort.ensures.ok
