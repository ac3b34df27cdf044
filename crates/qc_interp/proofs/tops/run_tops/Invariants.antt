use Rattle.qc_script.specs.Calls.{MeetsLink}
use Rattle.qc_script.specs.Client.{HasJoined}
use Rattle.qc_interp.proofs.Sessions.TopLoops.{BodiesLeft}
use Rattle.qc_interp.proofs.tops.run_tops.Given as goal

abbrev pub invariant-loop-body : goal.invariant-loop-body
invariant-loop-body g l =
    let view = g.T.Tx.view in
    record {
      met : MeetsLink (view l.tx);
      joined : HasJoined (view l.initial.tx).client (view l.initial.tx).seen (view l.tx).client;
      left : BodiesLeft (view l.tx).client l.bodies (view l.initial.tx).seen (view l.tx).seen l.body-index;
    }
