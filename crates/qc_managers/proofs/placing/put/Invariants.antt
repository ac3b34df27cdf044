-- While a manager puts it may go on, and what it was told in the phase is kept.
use Rattle.qc_managers.specs.Answered.{told_in}
use Rattle.qc_managers.proofs.Putting.{IsPutting}
use Rattle.qc_managers.proofs.Unasked.{unasked}
use Rattle.qc_managers.proofs.placing.put.Given as goal

abbrev pub ghost-request : goal.ghost-request
ghost-request g a = g.kind

abbrev pub invariant-loop-puts : goal.invariant-loop-puts
invariant-loop-puts g l =
    record {
      met :
          IsPutting
          (g.C.Carrier.view l.fn.carrier)
          (g.C.Carrier.view l.carrier)
          l.manager g.kind l.config l.fn.phase l.puts;
      became : g.C.Carrier.became l.fn.carrier l.carrier;
    }

abbrev pub decreases-loop-puts : goal.decreases-loop-puts
decreases-loop-puts g l = unasked (told_in (g.C.Carrier.view l.carrier).seen l.manager l.fn.phase)
