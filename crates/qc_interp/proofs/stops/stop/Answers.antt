use Rattle.std.proofs.Common.{sym, subst, false, refl}
use Rattle.qc_event.proofs.Absent.{same_is}
use Rattle.qc_interp.specs.Running.{Stopped, WhyStop}
use Rattle.qc_interp.proofs.Stepping.StepsLeave.{stop_itself, stop_other}
use Rattle.qc_interp.proofs.stops.stop.Goals as goal

pub returns-then-eq-clause-ok : goal.returns-then-eq-clause-ok
returns-then-eq-clause-ok g c =
    let v = g.T.Tx.view c.args.tx.now in
    subst (λ w. Stopped v.client c.args.of.now w v.seen v.seen false) (sym c.in-Orphan.is)
    (stop_itself v.client c.args.of.now v.seen c.in-Orphan.ancestor c.requires.runs (subst (WhyStop v.client v.seen c.args.of.now) c.in-Orphan.is c.requires.why) (same_is _ _ (sym c.if-eq.ensures)))

pub returns-in_default : goal.returns-in_default
returns-in_default g c =
    let v = g.T.Tx.view c.args.tx.now in
    record { met = c.requires.met; client = refl; ok = stop_other v.client c.args.of.now v.seen c.args.why.now c.requires.runs c.requires.why c.in_default.not-Conflict c.in_default.not-Orphan c.in_default.not-NoQuorum c.in_default.not-Last; cut = tt; room = tt }
