use Rattle.qc_history.specs.Aborts.{abort_top, last_abort}
use Rattle.qc_history.proofs.Beside.{beside_wider}
use Rattle.qc_history.proofs.Linking.{linked_same}
use Rattle.qc_history.proofs.aborts.Aborts.make_room.Goals as goal

pub returns-in_err-reach_name-clause-same : goal.returns-in_err-reach_name-clause-same
returns-in_err-reach_name-clause-same c = λ past was. record {
  last = beside_wider last_abort past _ _ c.reach_name.ensures.same was.last;
  linked = was.linked;
}

pub returns-clause-same : goal.returns-clause-same
returns-clause-same c = λ past was. record {
  last = beside_wider last_abort past _ _ c.reach_name.ensures.same was.last;
  linked = linked_same abort_top past _ _ (λ i less. c.reach.ensures.same i) was.linked;
}
