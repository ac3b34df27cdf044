use Rattle.std.proofs.Common.{rules, [], sym, subst, ◌∙◌}
use Rattle.qc_script.specs.Client.{Made}
use Rattle.qc_script.specs.Managers.{manager_for}
use Rattle.qc_interp.specs.Running.{Runs, Stopped, WhyStop}
use Rattle.qc_interp.proofs.Stepping.StepsLeave.{manage_by_on, manage_stops, manage_over, manage_short, manage_cut}
use Rattle.qc_interp.proofs.Stepping.Results.{any_err}
use Rattle.qc_interp.proofs.managing.call.Goals as goal

pub stop-requires : goal.stop-requires
stop-requires g c =
    let v = g.T.Tx.view c.args.tx.now in
    let w = g.T.Tx.view c.manage.new.self in
    let h = manage_stops v.client c.args.of.now (manager_for c.args.what.now) v.seen w.seen c.in-Err.why c.requires.fits c.requires.runs c.in-Err.ensures.err c.in_default.not-Short in
    record {
      runs = subst (λ d. Runs d c.args.of.now w.seen) (sym c.manage.ensures.client) h.0;
      met = c.manage.ensures.met;
      why = subst (λ d. WhyStop d w.seen c.args.of.now c.in-Err.why) (sym c.manage.ensures.client) h.1;
    }

pub returns-in-Ok-clause-ok : goal.returns-in-Ok-clause-ok
returns-in-Ok-clause-ok g c =
    let v = g.T.Tx.view c.args.tx.now in
    manage_by_on v.client c.args.of.now (manager_for c.args.what.now) c.in-Ok.given v.seen (g.T.Tx.view c.manage.new.self).seen c.requires.runs c.in-Ok.ensures.ok

pub returns-in_ok-again-in_default : goal.returns-in_ok-again-in_default
returns-in_ok-again-in_default g c =
    let v = g.T.Tx.view c.args.tx.now in
    let w = g.T.Tx.view c.manage.new.self in
    record {
      met = c.stop.ensures.met;
      client = c.stop.ensures.client ∙ c.manage.ensures.client;
      ok = λ next.
          manage_over v.client c.args.of.now (manager_for c.args.what.now) v.seen w.seen (g.T.Tx.view c.stop.new.tx).seen c.in-Err.why c.in_ok-again-in_default.again next c.requires.runs c.in-Err.ensures.err c.in_default.not-Short
          (subst (λ d. Stopped d c.args.of.now c.in-Err.why w.seen (g.T.Tx.view c.stop.new.tx).seen c.in_ok-again-in_default.again) c.manage.ensures.client c.in_ok-again-in_default.ensures.ok);
      cut = tt;
      room = tt;
    }

pub returns-in-Short-clause-cut : goal.returns-in-Short-clause-cut
returns-in-Short-clause-cut g c next =
    let v = g.T.Tx.view c.args.tx.now in
    manage_short v.client c.args.of.now (manager_for c.args.what.now) v.seen (g.T.Tx.view c.manage.new.self).seen c.in-Err.why next c.in-Short.short c.in-Short.is c.requires.runs c.in-Err.ensures.err

pub returns-in_err-again-in_default : goal.returns-in_err-again-in_default
returns-in_err-again-in_default g c =
    let v = g.T.Tx.view c.args.tx.now in
    let w = g.T.Tx.view c.manage.new.self in
    let x = g.T.Tx.view c.stop.new.tx in
    record {
      met = c.stop.ensures.met;
      client = c.stop.ensures.client ∙ c.manage.ensures.client;
      ok = search rules;
      cut = any_err _ c.from_residual.result
          (λ next. manage_cut v.client c.args.of.now (manager_for c.args.what.now) v.seen w.seen x.seen c.in-Err.why next c.requires.runs c.in-Err.ensures.err c.in_default.not-Short
          (subst (λ d. Made d [] w.seen x.seen) c.manage.ensures.client c.in_err-again-in_default.ensures.cut));
      room = search rules;
    }
