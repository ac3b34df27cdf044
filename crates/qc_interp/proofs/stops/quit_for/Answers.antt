use Rattle.std.proofs.Common.{[], sym, subst}
use Rattle.qc_event.specs.declared.event.Cause.TheVariants as cause
use Rattle.qc_script.specs.Client.{Made}
use Rattle.qc_interp.specs.Running.{Runs, Stopped, QuitFor}
use Rattle.qc_interp.proofs.Stepping.Asking.{not_aborted_made}
use Rattle.qc_interp.proofs.Stepping.Ending.{runs_still}
use Rattle.qc_interp.proofs.Trying.Failing.{quit_for_ok, quit_for_no, quit_for_dead}
use Rattle.qc_interp.proofs.Scopes.Growth.{made_both}
use Rattle.qc_interp.proofs.Stepping.Results.{if_ok, if_err}
use Rattle.qc_interp.proofs.stops.quit_for.Goals as goal

pub stop-requires-clause-runs : goal.stop-requires-clause-runs
stop-requires-clause-runs g c =
    let v = g.T.Tx.view c.args.tx.now in
    let w = g.T.Tx.view c.abort.new.self in
    subst (λ d. Runs d c.args.of.now w.seen) (sym c.abort.ensures.client)
    (runs_still v.client c.args.of.now v.seen w.seen (not_aborted_made v.client c.args.of.now c.args.of.now (cause.Child c.args.child.now) v.seen w.seen c.in-Err.why c.in-Err.ensures.err) c.requires.runs)

pub returns-in-Ok-clause-ok : goal.returns-in-Ok-clause-ok
returns-in-Ok-clause-ok g c =
    let v = g.T.Tx.view c.args.tx.now in
    quit_for_ok v.client c.args.of.now c.args.child.now v.seen (g.T.Tx.view c.abort.new.self).seen c.requires.runs c.requires.failed (c.in-Ok.ensures.alive tt) c.in-Ok.ensures.ok

pub returns-in-Orphan-clause-ok : goal.returns-in-Orphan-clause-ok
returns-in-Orphan-clause-ok g c =
    let v = g.T.Tx.view c.args.tx.now in
    let w = g.T.Tx.view c.abort.new.self in
    let x = g.T.Tx.view c.stop.new.tx in
    let of = c.args.of.now in
    let child = c.args.child.now in
    if_ok (Stopped w.client of c.in-Err.why w.seen x.seen) (QuitFor v.client of child v.seen x.seen) c.stop.result
    (λ again stopped. quit_for_dead v.client of child v.seen w.seen x.seen c.in-Orphan.field-0 again (not_aborted_made v.client of of (cause.Child child) v.seen w.seen c.in-Err.why c.in-Err.ensures.err)
    (subst (λ y. Stopped v.client of y w.seen x.seen again) c.in-Orphan.is (subst (λ d. Stopped d of c.in-Err.why w.seen x.seen again) c.abort.ensures.client stopped))) c.stop.ensures.ok

pub returns-in-Orphan-clause-cut : goal.returns-in-Orphan-clause-cut
returns-in-Orphan-clause-cut g c =
    let v = g.T.Tx.view c.args.tx.now in
    let w = g.T.Tx.view c.abort.new.self in
    let x = g.T.Tx.view c.stop.new.tx in
    let of = c.args.of.now in
    if_err (Made w.client [] w.seen x.seen) (Made v.client [] v.seen x.seen) c.stop.result
    (λ m. made_both v.client v.seen w.seen x.seen (not_aborted_made v.client of of (cause.Child c.args.child.now) v.seen w.seen c.in-Err.why c.in-Err.ensures.err) (subst (λ d. Made d [] w.seen x.seen) c.abort.ensures.client m)) c.stop.ensures.cut

pub returns-in_default : goal.returns-in_default
returns-in_default g c =
    let v = g.T.Tx.view c.args.tx.now in
    record {
      met = c.abort.ensures.met;
      client = c.abort.ensures.client;
      ok = quit_for_no v.client c.args.of.now c.args.child.now v.seen (g.T.Tx.view c.abort.new.self).seen c.in-Err.why c.requires.runs c.requires.failed c.in-Err.ensures.err c.in_default.not-Short c.in_default.not-Orphan;
      cut = tt;
      room = tt;
    }
