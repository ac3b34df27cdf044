use Rattle.std.proofs.Common.{rules, [], sym, subst, ◌∙◌}
use Rattle.qc_script.specs.Client.{Made}
use Rattle.qc_script.specs.Plan.{Plan}
use Rattle.qc_interp.specs.Running.{Runs, WhyStop, Stopped}
use Rattle.qc_interp.proofs.Stepping.Results.{any_err}
use Rattle.qc_interp.proofs.Stepping.Asking.{commit_ok, commit_ledger, commit_stops, commit_short, commit_over}
use Rattle.qc_interp.proofs.Stepping.Ending.{cut_still}
use Rattle.qc_interp.proofs.Scopes.Growth.{made_both}
use Rattle.qc_interp.proofs.stops.commit.Goals as goal

pub stop-requires : goal.stop-requires
stop-requires g c =
    let v = g.T.Tx.view c.args.tx.now in
    let w = g.T.Tx.view c.commit.new.self in
    let h = commit_stops v.client c.args.of.now v.seen w.seen c.in-Err.why c.requires.runs c.in-Err.ensures.err c.in_default.not-Short c.in_default.not-Ledger in
    record {
      runs = subst (λ d. Runs d c.args.of.now w.seen) (sym c.commit.ensures.client) h.0;
      met = c.commit.ensures.met;
      why = subst (λ d. WhyStop d w.seen c.args.of.now c.in-Err.why) (sym c.commit.ensures.client) h.1;
    }

pub returns-in-Ok-clause-ok : goal.returns-in-Ok-clause-ok
returns-in-Ok-clause-ok g c =
    let v = g.T.Tx.view c.args.tx.now in
    commit_ok v.client c.args.of.now v.seen (g.T.Tx.view c.commit.new.self).seen c.requires.runs c.in-Ok.ensures.ok

pub returns-in-Ledger-clause-ok : goal.returns-in-Ledger-clause-ok
returns-in-Ledger-clause-ok g c =
    let v = g.T.Tx.view c.args.tx.now in
    commit_ledger v.client c.args.of.now v.seen (g.T.Tx.view c.commit.new.self).seen c.in-Err.why c.in-Ledger.is c.requires.runs c.in-Err.ensures.err

pub returns-in_ok-again-in_default : goal.returns-in_ok-again-in_default
returns-in_ok-again-in_default g c =
    let v = g.T.Tx.view c.args.tx.now in
    let w = g.T.Tx.view c.commit.new.self in
    let x = g.T.Tx.view c.stop.new.tx in
    let of = c.args.of.now in
    record {
      met = c.stop.ensures.met;
      client = c.stop.ensures.client ∙ c.commit.ensures.client;
      ok = commit_over v.client of v.seen w.seen x.seen c.in-Err.why c.in_ok-again-in_default.again c.requires.runs c.in-Err.ensures.err c.in_default.not-Short c.in_default.not-Ledger
          (subst (λ d. Stopped d of c.in-Err.why w.seen x.seen c.in_ok-again-in_default.again) c.commit.ensures.client c.in_ok-again-in_default.ensures.ok);
      cut = tt;
      room = tt;
    }

pub returns-in_err-again-in_default : goal.returns-in_err-again-in_default
returns-in_err-again-in_default g c =
    let v = g.T.Tx.view c.args.tx.now in
    let w = g.T.Tx.view c.commit.new.self in
    let x = g.T.Tx.view c.stop.new.tx in
    let of = c.args.of.now in
    record {
      met = c.stop.ensures.met;
      client = c.stop.ensures.client ∙ c.commit.ensures.client;
      ok = search rules;
      cut = any_err _ c.from_residual.result
          (cut_still v.client of v.seen x.seen c.requires.runs
          (made_both v.client v.seen w.seen x.seen (commit_stops v.client of v.seen w.seen c.in-Err.why c.requires.runs c.in-Err.ensures.err c.in_default.not-Short c.in_default.not-Ledger).2
          (subst (λ d. Made d [] w.seen x.seen) c.commit.ensures.client c.in_err-again-in_default.ensures.cut)) Plan.done);
      room = search rules;
    }

pub returns-in-Short-clause-cut : goal.returns-in-Short-clause-cut
returns-in-Short-clause-cut g c =
    let v = g.T.Tx.view c.args.tx.now in
    commit_short v.client c.args.of.now v.seen (g.T.Tx.view c.commit.new.self).seen c.in-Err.why c.in-Short.short c.in-Short.is c.requires.runs c.in-Err.ensures.err
