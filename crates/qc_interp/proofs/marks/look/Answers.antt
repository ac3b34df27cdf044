use Rattle.std.proofs.Common.{[], sym, subst}
use Rattle.qc_event.specs.declared.event.Cause.TheVariants as cause
use Rattle.qc_event.specs.declared.event.How.TheVariants.{Abort}
use Rattle.qc_script.specs.Client.{Made}
use Rattle.qc_interp.specs.Running.{Runs, Quit}
use Rattle.qc_interp.proofs.Stepping.Ending.{runs_still}
use Rattle.qc_interp.proofs.Scopes.Growth.{made_both}
use Rattle.qc_interp.proofs.Stepping.Marking.{quit_later}
use Rattle.qc_interp.proofs.Stepping.Results.{any_err}
use Rattle.qc_interp.proofs.marks.look.Goals as goal

pub quit-requires-clause-runs : goal.quit-requires-clause-runs
quit-requires-clause-runs g c =
    let v = g.T.Tx.view c.args.tx.now in
    let w = g.T.Tx.view c.killed.new.self in
    subst (λ d. Runs d c.args.of.now w.seen) (sym c.killed.ensures.client) (runs_still v.client c.args.of.now v.seen w.seen c.killed.ensures.made c.requires.runs)

pub returns-then-killed-clause-ok : goal.returns-then-killed-clause-ok
returns-then-killed-clause-ok g c =
    let v = g.T.Tx.view c.args.tx.now in
    let w = g.T.Tx.view c.killed.new.self in
    let x = g.T.Tx.view c.quit.new.tx in
    quit_later v.client c.args.of.now (Abort cause.Killed) v.seen w.seen x.seen c.in_ok-again.again c.killed.ensures.made
    (subst (λ d. Quit d c.args.of.now (Abort cause.Killed) w.seen x.seen c.in_ok-again.again) c.killed.ensures.client c.in_ok-again.ensures.ok)

pub returns-in_err-again-clause-cut : goal.returns-in_err-again-clause-cut
returns-in_err-again-clause-cut g c =
    let v = g.T.Tx.view c.args.tx.now in
    let w = g.T.Tx.view c.killed.new.self in
    let x = g.T.Tx.view c.quit.new.tx in
    any_err _ c.from_residual.result
    (made_both v.client v.seen w.seen x.seen c.killed.ensures.made (subst (λ d. Made d [] w.seen x.seen) c.killed.ensures.client c.in_err-again.ensures.cut))
