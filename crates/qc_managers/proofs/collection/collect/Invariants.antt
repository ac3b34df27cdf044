-- While a manager collects it may go on, and what it was told is gathered.
use Rattle.qc_event.specs.declared.event.Phase.TheVariants.{Collect}
use Rattle.qc_managers.specs.Answered.{told_in}
use Rattle.qc_managers.proofs.Collecting.{IsCollecting}
use Rattle.qc_managers.proofs.Unasked.{unasked}
use Rattle.qc_managers.proofs.collection.collect.Given as goal

abbrev pub ghost-request : goal.ghost-request
ghost-request g a = g.kind

abbrev pub invariant-loop-gather : goal.invariant-loop-gather
invariant-loop-gather g l =
    record {
      met :
          IsCollecting
          (g.C.Carrier.view l.fn.carrier)
          (g.C.Carrier.view l.carrier)
          l.manager g.kind l.first l.gather;
      became : g.C.Carrier.became l.fn.carrier l.carrier;
    }

abbrev pub decreases-loop-gather : goal.decreases-loop-gather
decreases-loop-gather g l = unasked (told_in (g.C.Carrier.view l.carrier).seen l.manager Collect)
