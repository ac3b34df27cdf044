use Rattle.std.proofs.Common.{sym, subst}
use Rattle.qc_event.specs.declared.event.How.TheVariants.{Abort}
use Rattle.qc_interp.specs.Running.{Quit}
use Rattle.qc_interp.proofs.Stepping.Ending.{quit_ok, quit_no}
use Rattle.qc_interp.proofs.stops.quit.Goals as goal

pub returns-in-Ok-clause-ok : goal.returns-in-Ok-clause-ok
returns-in-Ok-clause-ok g c =
    let v = g.T.Tx.view c.args.tx.now in
    subst (Quit v.client c.args.of.now (Abort c.args.cause) v.seen (g.T.Tx.view c.abort.new.self).seen) (sym c.is_tried_again.ensures)
    (quit_ok v.client c.args.of.now c.args.cause v.seen (g.T.Tx.view c.abort.new.self).seen c.requires.grounded c.requires.itself c.in-Ok.ensures.ok)

pub returns-in_default : goal.returns-in_default
returns-in_default g c =
    let v = g.T.Tx.view c.args.tx.now in
    record { met = c.abort.ensures.met; client = c.abort.ensures.client; ok = quit_no v.client c.args.of.now c.args.cause v.seen (g.T.Tx.view c.abort.new.self).seen c.in-Err.why c.requires.runs c.requires.grounded c.requires.itself c.in-Err.ensures.err c.in_default.not-Short; cut = tt; room = tt }
