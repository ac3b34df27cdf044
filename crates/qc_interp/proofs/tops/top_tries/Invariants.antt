use Rattle.qc_script.specs.Calls.{MeetsLink}
use Rattle.qc_script.specs.Client.{HasJoined}
use Rattle.std.proofs.Common.{◌-◌}
use Rattle.qc_script.specs.Steps.{numbered}
use Rattle.qc_interp.proofs.Sessions.TopLoops.{TopTriesLeft}
use Rattle.qc_interp.proofs.tops.top_tries.Given as goal

abbrev pub invariant-loop : goal.invariant-loop
invariant-loop g l =
    let view = g.T.Tx.view in
    record {
      met : MeetsLink (view l.tx);
      joined : HasJoined (view l.initial.tx).client (view l.initial.tx).seen (view l.tx).client;
      left : TopTriesLeft (view l.tx).client (numbered l.body) (view l.initial.tx).seen (view l.tx).seen ((numbered l.body).tries - l.counter);
    }
